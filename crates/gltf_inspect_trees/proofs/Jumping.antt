-- Jumps lead to nodes above.
use Rattle.std.proofs.Common.{◌≡◌, ◌≢◌, ◌<◌, ◌≤◌, ◌-◌, ℕ, zero, suc, Bool, true, false, ◌⊎◌, inl}
use Rattle.std.proofs.Common.{inr, refl, sym, ◌∙◌, ap, subst, arith, List, length, get_or, set}
use Rattle.std.specs.Prelude.{nat_eq, nat_lt, ◌||◌, if◌then◌else◌}
use Rattle.std.proofs.lemmas.Bool.{eqb-true, eq-eqb, ne_eqb, ltb-false, cases_eq, cases_lt}
use Rattle.std.proofs.lemmas.List.{get_or-set_same, get_or-set_other, get_or_past}
use Rattle.std.proofs.lemmas.List.{get_or_default}
use Rattle.gltf_inspect_nodes.specs.Roots.{led}
use Rattle.gltf_inspect_trees.specs.Skeletons.{leads}
use Rattle.gltf_inspect_trees.specs.Jumps.{rank, IsInOrder, AreJumps, is_above, jump_of, next_up}

-- ---- steps to the parent

or_same : (b : Bool) → (b || b) ≡ b
or_same true = refl
or_same false = refl

leads_still : (p : List ℕ) (n s v : ℕ) → led p v ≡ v → leads p n s v ≡ nat_eq v s
unfolding leads
leads_still p zero s v e = refl
leads_still p (suc n) s v e =
    ap (λ x. nat_eq v s || leads p n s x) e
    ∙ ap (λ b. nat_eq v s || b) (leads_still p n s v e)
    ∙ or_same (nat_eq v s)

falls : (first : Bool) (p t : List ℕ) (v : ℕ) → (led p v ≡ v → led t v ≡ v)
    → (led p v ≢ v → rank first (led t v) < rank first v) → rank first (led t v) ≤ rank first v
falls first p t v stays up = falls_by (cases_eq (led p v) v)
  where
    falls_by : (led p v ≡ v) ⊎ (led p v ≢ v) → rank first (led t v) ≤ rank first v
    falls_by (inl e) = let same : rank first (led t v) ≡ rank first v
        = ap (λ x. rank first x) (stays e) in omega arith
    falls_by (inr ne) = let less = up ne in omega arith

-- a step more than the rank changes nothing
enough : (first : Bool) (p : List ℕ) → IsInOrder first p → (n s v : ℕ) → rank first v ≤ n
    → (led p v ≡ v) ⊎ (led p v ≢ v) → leads p (suc n) s v ≡ leads p n s v
unfolding leads
enough first p order n s v few (inl e) = leads_still p (suc n) s v e ∙ sym (leads_still p n s v e)
enough first p order zero s v few (inr ne) = let less = order v ne in absurd (omega arith)
enough first p order (suc n) s v few (inr ne) =
    let less = order v ne in
    ap (λ b. nat_eq v s || b)
    (enough first p order n s (led p v) (let l : rank first (led p v) ≤ n = omega arith in l)
    (cases_eq (led p (led p v)) (led p v)))

-- a node is below what its parent is below, and itself
step_of : (first : Bool) (p : List ℕ) (n s v : ℕ) → IsInOrder first p → rank first v ≤ n → v ≢ s
    → leads p (suc n) s v ≡ leads p (suc n) s (led p v)
unfolding leads
step_of first p n s v order few ne =
    let down = falls first p p v (λ e. e) (λ other. order v other) in
    ap (λ b. b || leads p n s (led p v)) (ne_eqb v s ne)
    ∙ sym (enough first p order n s (led p v)
    (let l : rank first (led p v) ≤ n = omega arith in l)
    (cases_eq (led p (led p v)) (led p v)))

-- what is above has no greater rank

higher_by : (first : Bool) (p : List ℕ) (n s v : ℕ) (b : Bool) → nat_eq v s ≡ b
    → rank first (led p v) ≤ rank first v
    → (leads p n s (led p v) ≡ true → rank first s ≤ rank first (led p v))
    → (b || leads p n s (led p v)) ≡ true → rank first s ≤ rank first v
higher_by first p n s v true e down rest h =
    let same : rank first v ≡ rank first s = ap (λ x. rank first x) (eqb-true v s e) in omega arith
higher_by first p n s v false e down rest h = let there = rest h in omega arith

higher : (first : Bool) (p : List ℕ) → IsInOrder first p → (n s v : ℕ) → leads p n s v ≡ true
    → rank first s ≤ rank first v
unfolding leads
higher first p order zero s v h =
    let same : rank first v ≡ rank first s = ap (λ x. rank first x) (eqb-true v s h) in omega arith
higher first p order (suc n) s v h =
    higher_by first p n s v (nat_eq v s) refl
    (falls first p p v (λ e. e) (λ ne. order v ne))
    (λ rest. higher first p order n s (led p v) rest) h

lower_by : (b : Bool) → (b ≡ true → ⊥) → b ≡ false
lower_by true h = absurd (h refl)
lower_by false h = refl

none_above : (first : Bool) (p : List ℕ) (n s v : ℕ) → IsInOrder first p → v ≢ s
    → rank first v ≤ rank first s → (led p v ≡ v) ⊎ (led p v ≢ v) → leads p n s v ≡ true → ⊥
unfolding leads
none_above first p n s v order ne low (inl e) h =
    ne (eqb-true v s (sym (leads_still p n s v e) ∙ h))
none_above first p zero s v order ne low (inr moved) h = ne (eqb-true v s h)
none_above first p (suc n) s v order ne low (inr moved) h =
    let less = order v moved in
    let there = higher first p order n s (led p v)
    (sym (ap (λ b. b || leads p n s (led p v)) (ne_eqb v s ne)) ∙ h) in
    omega arith

-- of those that are no deeper than s, s alone is s or below it
low_by : (first : Bool) (p : List ℕ) (n s v : ℕ) → IsInOrder first p
    → rank first v ≤ rank first s → (v ≡ s) ⊎ (v ≢ s) → leads p n s v ≡ nat_eq v s
unfolding leads
low_by first p zero s v order low same = refl
low_by first p (suc n) s v order low (inl e) =
    ap (λ b. b || leads p n s (led p v)) (eq-eqb v s e) ∙ sym (eq-eqb v s e)
low_by first p (suc n) s v order low (inr ne) =
    lower_by (leads p (suc n) s v)
    (none_above first p (suc n) s v order ne low (cases_eq (led p v) v))
    ∙ sym (ne_eqb v s ne)

pub low-is : (first : Bool) (p : List ℕ) (s v : ℕ) → IsInOrder first p
    → rank first v ≤ rank first s → is_above p s v ≡ nat_eq v s
low-is first p s v order low =
    low_by first p 18446744073709551616 s v order low (cases_eq v s)

pub still-is : (p : List ℕ) (s v : ℕ) → led p v ≡ v → is_above p s v ≡ nat_eq v s
still-is p s v e = leads_still p 18446744073709551616 s v e

-- ---- the parents are jumps

few_by : (first : Bool) (v : ℕ) → v ≤ 18446744073709551615 → rank first v ≤ 18446744073709551615
few_by true v h = h
few_by false v h = omega arith

first_step : (first : Bool) (p : List ℕ) (s v : ℕ) → IsInOrder first p
    → length p ≤ 18446744073709551615 → v ≢ s → (v < length p) ⊎ (length p ≤ v)
    → is_above p s v ≡ is_above p s (led p v)
first_step first p s v order few ne (inl below) =
    step_of first p 18446744073709551615 s v order
    (few_by first v (let l : v ≤ 18446744073709551615 = omega arith in l)) ne
first_step first p s v order few ne (inr past) =
    ap (λ x. is_above p s x) (sym (get_or_past p v v past))

-- one step, where s is no deeper than where it leads
one_by : (first : Bool) (p : List ℕ) (s v : ℕ) → IsInOrder first p
    → (v ≢ s → is_above p s v ≡ is_above p s (led p v))
    → rank first s ≤ rank first (led p v) → (led p v ≡ v) ⊎ (led p v ≢ v)
    → is_above p s v ≡ is_above p s (led p v)
one_by first p s v order step high (inl e) = ap (λ x. is_above p s x) (sym e)
one_by first p s v order step high (inr moved) =
    step (λ same.
    let less = order v moved in
    let at : rank first v ≡ rank first s = ap (λ x. rank first x) same in
    omega arith)

pub first_jumps : (first : Bool) (p : List ℕ) → IsInOrder first p
    → length p ≤ 18446744073709551615 → AreJumps first p p
first_jumps first p order few = record {
  in_order = order;
  step = λ s v ne. first_step first p s v order few ne (cases_lt v (length p));
  stays = λ v e. e;
  up = order;
  same = λ s v high.
      one_by first p s v order
      (λ ne. first_step first p s v order few ne (cases_lt v (length p))) high
      (cases_eq (led p v) v);
}

-- ---- one jump more

-- x is where the node leads by one step, or by two jumps from there
abbrev pub IsJump : List ℕ → List ℕ → ℕ → ℕ → Type 0
IsJump p t i x = (x ≡ led p i) ⊎ (x ≡ led t (led t (led p i)))

jump_stays : (first : Bool) (p t : List ℕ) (i x : ℕ) → AreJumps first p t → IsJump p t i x
    → led p i ≡ i → x ≡ i
jump_stays first p t i x h (inl e) still = e ∙ still
jump_stays first p t i x h (inr e) still =
    let here : led t i ≡ i = h.stays i still in
    e ∙ ap (λ v. led t (led t v)) still ∙ ap (λ v. led t v) here ∙ here

jump_up : (first : Bool) (p t : List ℕ) (i x : ℕ) → AreJumps first p t → IsJump p t i x
    → led p i ≢ i → rank first x < rank first i
jump_up first p t i x h (inl e) moved =
    subst (λ v. rank first v < rank first i) (sym e) (h.in_order i moved)
jump_up first p t i x h (inr e) moved =
    let one = h.in_order i moved in
    let two = falls first p t (led p i) (h.stays (led p i)) (h.up (led p i)) in
    let three = falls first p t (led t (led p i)) (h.stays (led t (led p i)))
    (h.up (led t (led p i))) in
    subst (λ v. rank first v < rank first i) (sym e) (omega arith)

jump_same : (first : Bool) (p t : List ℕ) (i x s : ℕ) → AreJumps first p t → IsJump p t i x
    → rank first s ≤ rank first x → is_above p s i ≡ is_above p s x
jump_same first p t i x s h (inl e) high =
    one_by first p s i h.in_order (h.step s i)
    (subst (λ v. rank first s ≤ rank first v) e high) (cases_eq (led p i) i)
    ∙ ap (λ v. is_above p s v) (sym e)
jump_same first p t i x s h (inr e) high =
    let there = subst (λ v. rank first s ≤ rank first v) e high in
    let two = falls first p t (led p i) (h.stays (led p i)) (h.up (led p i)) in
    let three = falls first p t (led t (led p i)) (h.stays (led t (led p i)))
    (h.up (led t (led p i))) in
    one_by first p s i h.in_order (h.step s i) (omega arith) (cases_eq (led p i) i)
    ∙ h.same s (led p i) (omega arith)
    ∙ h.same s (led t (led p i)) there
    ∙ ap (λ v. is_above p s v) (sym e)

-- what holds of it and of the others holds of all
each_by : (P : ℕ → ℕ → Type 0) (t : List ℕ) (i x v : ℕ) → i < length t → P i x → P v (led t v)
    → (v ≡ i) ⊎ (v ≢ i) → P v (led (set t i x) v)
each_by P t i x v below here there (inl e) =
    subst (λ w. P w (led (set t i x) w)) (sym e)
    (subst (λ y. P i y) (sym (get_or-set_same t i x i below)) here)
each_by P t i x v below here there (inr ne) =
    subst (λ y. P v y) (sym (get_or-set_other t i v x v ne)) there

pub jumps_more : (first : Bool) (p t : List ℕ) (i x : ℕ) → AreJumps first p t → i < length t
    → IsJump p t i x → AreJumps first p (set t i x)
jumps_more first p t i x h below jump = record {
  in_order = h.in_order;
  step = h.step;
  stays = λ v.
      each_by (λ v y. led p v ≡ v → y ≡ v) t i x v below (jump_stays first p t i x h jump)
      (h.stays v) (cases_eq v i);
  up = λ v.
      each_by (λ v y. led p v ≢ v → rank first y < rank first v) t i x v below
      (jump_up first p t i x h jump) (h.up v) (cases_eq v i);
  same = λ s v.
      each_by (λ v y. rank first s ≤ rank first y → is_above p s v ≡ is_above p s y) t i x v below
      (jump_same first p t i x s h jump) (h.same s v) (cases_eq v i);
}

chosen : (b : Bool) (t : List ℕ) (parent : ℕ)
    → ((if b then led t (led t parent) else parent) ≡ parent)
    ⊎ ((if b then led t (led t parent) else parent) ≡ led t (led t parent))
chosen true t parent = inr refl
chosen false t parent = inl refl

jump_chosen : (t d : List ℕ) (parent : ℕ) → (jump_of t d parent ≡ parent)
    ⊎ (jump_of t d parent ≡ led t (led t parent))
jump_chosen t d parent =
    chosen (nat_eq (get_or d parent 0 - get_or d (led t parent) 0)
    (get_or d (led t parent) 0 - get_or d (led t (led t parent)) 0)) t parent

is_jump_by : (p t : List ℕ) (i x parent : ℕ) → parent ≡ led p i
    → (x ≡ parent) ⊎ (x ≡ led t (led t parent)) → IsJump p t i x
is_jump_by p t i x parent e (inl same) = inl (same ∙ e)
is_jump_by p t i x parent e (inr there) = inr (there ∙ ap (λ v. led t (led t v)) e)

pub jump_is : (p t d : List ℕ) (i x : ℕ) → i < length p → x ≡ jump_of t d (get_or p i 0)
    → IsJump p t i x
jump_is p t d i x below e =
    is_jump_by p t i x (get_or p i 0) (get_or_default p i 0 i below)
    (subst (λ y. (y ≡ get_or p i 0) ⊎ (y ≡ led t (led t (get_or p i 0)))) (sym e)
    (jump_chosen t d (get_or p i 0)))

-- ---- from a node up to no less than a rank

record Next (first : Bool) (p t : List ℕ) (most v n : ℕ) : Type 0 where
  where_to : ((n ≡ led p v)) ⊎ ((n ≡ led t v) × (most ≤ rank first (led t v)))

next_by : (first : Bool) (p t : List ℕ) (most v : ℕ) (b : Bool)
    → nat_lt (rank first (led t v)) most ≡ b
    → Next first p t most v (if b then led p v else led t v)
next_by first p t most v true e = record { where_to = inl refl }
next_by first p t most v false e = record {
  where_to = inr (refl, ltb-false (rank first (led t v)) most e);
}

next_of : (first : Bool) (p t : List ℕ) (most v n : ℕ) → n ≡ next_up first p t most v
    → Next first p t most v n
next_of first p t most v n e =
    subst (λ x. Next first p t most v x) (sym e)
    (next_by first p t most v (nat_lt (rank first (led t v)) most) refl)

pub other_rank : (first : Bool) (s v : ℕ) → rank first s < rank first v → v ≢ s
other_rank first s v less same =
    let equal : rank first v ≡ rank first s = ap (λ x. rank first x) same in omega arith

same_by : (first : Bool) (p t : List ℕ) (s v n : ℕ) → AreJumps first p t
    → rank first s < rank first v
    → (n ≡ led p v) ⊎ ((n ≡ led t v) × (rank first s ≤ rank first (led t v)))
    → is_above p s n ≡ is_above p s v
same_by first p t s v n h less (inl e) =
    ap (λ x. is_above p s x) e ∙ sym (h.step s v (other_rank first s v less))
same_by first p t s v n h less (inr there) =
    ap (λ x. is_above p s x) there.0 ∙ sym (h.same s v there.1)

pub next-same : (first : Bool) (p t : List ℕ) (s v n : ℕ) → AreJumps first p t
    → rank first s < rank first v → n ≡ next_up first p t (rank first s) v
    → is_above p s n ≡ is_above p s v
next-same first p t s v n h less e =
    same_by first p t s v n h less (next_of first p t (rank first s) v n e).where_to

lower_from : (first : Bool) (p t : List ℕ) (v n : ℕ) → AreJumps first p t → n ≢ v
    → (n ≡ led p v) ⊎ (n ≡ led t v) → (led p v ≡ v) ⊎ (led p v ≢ v)
    → rank first n < rank first v
lower_from first p t v n h ne (inl e) (inl still) = absurd (ne (e ∙ still))
lower_from first p t v n h ne (inr e) (inl still) = absurd (ne (e ∙ h.stays v still))
lower_from first p t v n h ne (inl e) (inr moved) =
    subst (λ x. rank first x < rank first v) (sym e) (h.in_order v moved)
lower_from first p t v n h ne (inr e) (inr moved) =
    subst (λ x. rank first x < rank first v) (sym e) (h.up v moved)

one_of : (first : Bool) (p t : List ℕ) (most v n : ℕ)
    → (n ≡ led p v) ⊎ ((n ≡ led t v) × (most ≤ rank first (led t v)))
    → (n ≡ led p v) ⊎ (n ≡ led t v)
one_of first p t most v n (inl e) = inl e
one_of first p t most v n (inr there) = inr there.0

next_one : (first : Bool) (p t : List ℕ) (most v n : ℕ) → n ≡ next_up first p t most v
    → (n ≡ led p v) ⊎ (n ≡ led t v)
next_one first p t most v n e =
    one_of first p t most v n (next_of first p t most v n e).where_to

pub next-lower : (first : Bool) (p t : List ℕ) (most v n : ℕ) → AreJumps first p t → n ≢ v
    → n ≡ next_up first p t most v → rank first n < rank first v
next-lower first p t most v n h ne e =
    lower_from first p t v n h ne (next_one first p t most v n e) (cases_eq (led p v) v)

still_from : (first : Bool) (p t : List ℕ) (v n : ℕ) → AreJumps first p t → n ≡ v
    → (n ≡ led p v) ⊎ (n ≡ led t v) → (led p v ≡ v) ⊎ (led p v ≢ v) → led p v ≡ v
still_from first p t v n h same at (inl still) = still
still_from first p t v n h same (inl e) (inr moved) = absurd (moved (sym e ∙ same))
still_from first p t v n h same (inr e) (inr moved) =
    let up = h.up v moved in
    let equal : rank first (led t v) ≡ rank first v = ap (λ x. rank first x) (sym e ∙ same) in
    absurd (omega arith)

-- a node that leads nowhere else is below itself alone
pub next-none : (first : Bool) (p t : List ℕ) (s v n : ℕ) → AreJumps first p t
    → rank first s < rank first v → n ≡ v → n ≡ next_up first p t (rank first s) v
    → is_above p s v ≡ false
next-none first p t s v n h less same e =
    still-is p s v
    (still_from first p t v n h same (next_one first p t (rank first s) v n e)
    (cases_eq (led p v) v))
    ∙ ne_eqb v s (other_rank first s v less)
