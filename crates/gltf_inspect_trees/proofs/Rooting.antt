-- Where parents are in order, each node leads to one that has none.
use Rattle.std.proofs.Common.{◌≡◌, ◌≢◌, ◌<◌, ◌≤◌, ◌+◌, ℕ, zero, suc, Bool, true, false, ◌⊎◌, inl}
use Rattle.std.proofs.Common.{inr, refl, sym, ◌∙◌, ap, arith, List, [], ◌∷◌, length, get_or}
use Rattle.std.specs.Prelude.{nat_eq, if◌then◌else◌, ◌||◌, not}
use Rattle.std.proofs.lemmas.Bool.{eq-eqb, and_from, cases_eq, cases_lt}
use Rattle.std.proofs.lemmas.List.{get_or_past, get_or_default}
use Rattle.gltf_inspect_nodes.specs.Roots.{led, are_fixed}
use Rattle.gltf_inspect_nodes.specs.Orders.{ParentsComeFirst, ParentsComeLast}
use Rattle.gltf_inspect_trees.specs.Climbs.{Climb, first_climb, doubled, once, raised, reaches}
use Rattle.gltf_inspect_trees.specs.Jumps.{rank, IsInOrder, is_above}
use Rattle.gltf_inspect_trees.specs.Trees.{is_below_from}
use Rattle.gltf_inspect_trees.proofs.Counted.{led-twice, grown}
use Rattle.gltf_inspect_trees.proofs.Same.{rooted, counted_of, below_same, whole}

-- ---- the orders

pub order_first : (p : List ℕ) → ParentsComeFirst p → IsInOrder true p
order_first p h v ne = let low = h v in omega arith

order_by : (p : List ℕ) (v : ℕ) → v ≤ led p v → length p ≤ 18446744073709551615
    → led p v ≢ v → (v < length p) ⊎ (length p ≤ v) → rank false (led p v) < rank false v
order_by p v low few ne (inl below) = omega arith
order_by p v low few ne (inr past) = absurd (ne (get_or_past p v v past))

pub order_last : (p : List ℕ) → ParentsComeLast p → length p ≤ 18446744073709551615
    → IsInOrder false p
order_last p h few v ne = order_by p v (h v) few ne (cases_lt v (length p))

-- ---- doublings

once_by : (c : Climb) (v : ℕ) (b : Bool) → are_fixed c.top c.top ≡ b
    → led (if b then c else doubled c).top v ≡ led c.top (led c.top v)
once_by c v true e = sym (rooted c.top c.top e refl v)
once_by c v false e = led-twice c.top v

once-led : (c : Climb) (v : ℕ) → led (once c).top v ≡ led c.top (led c.top v)
unfolding once
once-led c v = once_by c v (are_fixed c.top c.top) refl

-- t leads each to where p leads nowhere else, or falls so far
record Falls (r : ℕ → ℕ) (p : List ℕ) (m : ℕ) (t : List ℕ) : Type 0 where
  still : (v : ℕ) → led p v ≡ v → led t v ≡ v
  far : (v : ℕ) → (led p (led t v) ≡ led t v) ⊎ (r (led t v) + m ≤ r v)

first_far : (r : ℕ → ℕ) (p : List ℕ) (v : ℕ) → (led p v ≢ v → r (led p v) < r v)
    → (led p v ≡ v) ⊎ (led p v ≢ v) → (led p (led p v) ≡ led p v) ⊎ (r (led p v) + 1 ≤ r v)
first_far r p v order (inl e) = inl (ap (λ x. led p x) e)
first_far r p v order (inr ne) =
    let less = order ne in inr (let l : r (led p v) + 1 ≤ r v = omega arith in l)

twice_far : (r : ℕ → ℕ) (p : List ℕ) (m : ℕ) (t : List ℕ) (v : ℕ) → Falls r p m t
    → (led p (led t v) ≡ led t v) ⊎ (r (led t v) + m ≤ r v)
    → (led p (led t (led t v)) ≡ led t (led t v)) ⊎ (r (led t (led t v)) + m ≤ r (led t v))
    → (led p (led t (led t v)) ≡ led t (led t v)) ⊎ (r (led t (led t v)) + (m + m) ≤ r v)
twice_far r p m t v h (inl e) other =
    let same : led t (led t v) ≡ led t v = h.still (led t v) e in
    inl (ap (λ x. led p x) same ∙ e ∙ sym same)
twice_far r p m t v h (inr less) (inl e) = inl e
twice_far r p m t v h (inr less) (inr more) =
    inr (let l : r (led t (led t v)) + (m + m) ≤ r v = omega arith in l)

once_falls : (r : ℕ → ℕ) (p : List ℕ) (m : ℕ) (c : Climb) → Falls r p m c.top
    → Falls r p (m + m) (once c).top
once_falls r p m c h = record {
  still = λ v e. once-led c v ∙ ap (λ x. led c.top x) (h.still v e) ∙ h.still v e;
  far = λ v. rw (once-led c v) (twice_far r p m c.top v h (h.far v) (h.far (led c.top v)));
}

-- each that has a parent leads to one of less rank
abbrev pub AreRanked : (ℕ → ℕ) → List ℕ → Type 0
AreRanked r p = (v : ℕ) → led p v ≢ v → r (led p v) < r v

raised_falls : (r : ℕ → ℕ) (p : List ℕ) (n : ℕ) → AreRanked r p
    → Falls r p (grown n 1) (raised n (first_climb p)).top
unfolding raised
raised_falls r p zero order = record {
  still = λ v e. e;
  far = λ v. first_far r p v (order v) (cases_eq (led p v) v);
}
raised_falls r p (suc n) order =
    once_falls r p (grown n 1) (raised n (first_climb p)) (raised_falls r p n order)

-- ---- all lead to nodes that have no parent

all_fixed : (t ks : List ℕ) → ((k : ℕ) → k < length ks → led t (get_or ks k 0) ≡ get_or ks k 0)
    → are_fixed t ks ≡ true
all_fixed t [] h = refl
all_fixed t (x ∷ xs) h =
    and_from (nat_eq (led t x) x) (are_fixed t xs)
    (eq-eqb (led t x) x (h 0 (let l : 0 < length (x ∷ xs) = omega arith in l)))
    (all_fixed t xs (λ k below. h (suc k)
    (let l : suc k < length (x ∷ xs) = omega arith in l)))

end_by : (r : ℕ → ℕ) (p t : List ℕ) (m v : ℕ) → r v < m
    → (led p (led t v) ≡ led t v) ⊎ (r (led t v) + m ≤ r v) → led p (led t v) ≡ led t v
end_by r p t m v few (inl e) = e
end_by r p t m v few (inr more) = absurd (omega arith)

-- where the ranks are few enough
pub ranked_rooted : (r : ℕ → ℕ) (p : List ℕ) → AreRanked r p
    → ((v : ℕ) → v < length p → r v < 18446744073709551616) → are_fixed p (whole p).top ≡ true
ranked_rooted r p order few =
    let long = (counted_of p).long in
    all_fixed p (whole p).top (λ k below.
    let in_p : k < length p = omega arith in
    let same : get_or (whole p).top k 0 ≡ led (whole p).top k
    = get_or_default (whole p).top k 0 k below in
    ap (λ v. led p v) same
    ∙ end_by r p (whole p).top 18446744073709551616 k (few k in_p)
    ((raised_falls r p 64 order).far k)
    ∙ sym same)

few_by : (first : Bool) (v : ℕ) → v < 18446744073709551616 → rank first v < 18446744073709551616
few_by true v h = h
few_by false v h = omega arith

all_rooted : (first : Bool) (p : List ℕ) → IsInOrder first p → length p ≤ 18446744073709551615
    → are_fixed p (whole p).top ≡ true
all_rooted first p order few =
    ranked_rooted (rank first) p order (λ v below.
    few_by first v (let l : v < 18446744073709551616 = omega arith in l))

pub below_in_order : (first : Bool) (p q : List ℕ) → IsInOrder first p
    → length p ≤ 18446744073709551615 → q ≡ p
    → (s k : ℕ) → is_above q s k ≡ is_below_from p s k
below_in_order first p q order few e s k =
    ap (λ t. is_above t s k) e
    ∙ sym (ap (λ b. not b || is_above p s k) (all_rooted first p order few))
