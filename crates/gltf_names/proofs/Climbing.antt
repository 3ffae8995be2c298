-- Whether a path climbs, found part by part.
use Rattle.std.proofs.Common.{◌≡◌, ℕ, zero, suc, ◌+◌, ◌-◌, ◌<◌, ◌≤◌, List, [], ◌∷◌, ◌++◌, take, drop, length}
use Rattle.std.proofs.Common.{get_or, Bool, true, false, if◌then◌else◌, ◌==◌, cond, not, ◌||◌, ◌↔◌}
use Rattle.std.proofs.Common.{IsTrue, arith, refl, ap, sym, ◌∙◌}
use Rattle.std.specs.List.{count_by}
use Rattle.std.proofs.lemmas.Bool.{eqb-true, eqb-false, eq-eqb, ne_eqb, false≢true}
use Rattle.std.proofs.lemmas.List.{at_drop_more, at_drop_all, length_push}
use Rattle.std.proofs.lemmas.List.Sums.{sum_by-cons}
use Rattle.gltf_names.specs.Inside.{Climbs, parts_of, is_up, is_still, is_down}

-- one part: u where it leads up, d where it leads down
abbrev pub step : Bool → Bool → ℕ → (ℕ → Bool) → Bool
step true d depth rest = if depth == 0 then true else rest (depth - 1)
step false true depth rest = rest (depth + 1)
step false false depth rest = rest depth

-- the parts climb, from so many folders down
abbrev pub climbs_from : List (List ℕ) → ℕ → Bool
climbs_from [] depth = false
climbs_from (part ∷ parts) depth = step (is_up part) (is_down part) depth (climbs_from parts)

abbrev ups : List (List ℕ) → ℕ → ℕ
ups parts k = count_by is_up (take k parts)

abbrev downs : List (List ℕ) → ℕ → ℕ
downs parts k = count_by is_down (take k parts)

abbrev ClimbsFrom : List (List ℕ) → ℕ → Type 0
ClimbsFrom parts depth = (k : ℕ) × (depth + downs parts k < ups parts k)

not_both : (part : List ℕ) → is_up part ≡ true → is_down part ≡ false
not_both part e = ap (λ (u : Bool). not (u || is_still part)) e

-- what one part adds to the counts
abbrev one : Bool → ℕ
one b = cond b 1 0

-- one part more, at the front
counted : (p : List ℕ → Bool) (part : List ℕ) (parts : List (List ℕ)) (k : ℕ)
    → count_by p (take (suc k) (part ∷ parts)) ≡ one (p part) + count_by p (take k parts)
counted p part parts k = sum_by-cons (λ (x : List ℕ). one (p x)) part (take k parts)

climbs_up : (parts : List (List ℕ)) (d z : Bool) (depth : ℕ) → (depth == 0) ≡ z → d ≡ false
    → ((other : ℕ) → climbs_from parts other ≡ true → ClimbsFrom parts other)
    → (if z then true else climbs_from parts (depth - 1)) ≡ true
    → (k : ℕ) × (depth + (one d + downs parts k) < one true + ups parts k)
climbs_up parts d true depth top still more e =
    let none : one d ≡ 0 = ap one still in
    (0, omega (arith, none, eqb-true depth 0 top))
climbs_up parts d false depth top still more e =
    let none : one d ≡ 0 = ap one still in
    let r = more (depth - 1) e in
    (r.0, omega (arith, none, eqb-false depth 0 top, r.1))

climbs_step : (u d : Bool) (parts : List (List ℕ)) (depth : ℕ) → (u ≡ true → d ≡ false)
    → ((other : ℕ) → climbs_from parts other ≡ true → ClimbsFrom parts other)
    → step u d depth (climbs_from parts) ≡ true
    → (k : ℕ) × (depth + (one d + downs parts k) < one u + ups parts k)
climbs_step true d parts depth apart more e =
    climbs_up parts d (depth == 0) depth refl (apart refl) more e
climbs_step false true parts depth apart more e =
    let r = more (depth + 1) e in (r.0, omega (arith, r.1))
climbs_step false false parts depth apart more e =
    let r = more depth e in (r.0, omega (arith, r.1))

climbs-is : (parts : List (List ℕ)) (depth : ℕ) → climbs_from parts depth ≡ true
    → ClimbsFrom parts depth
climbs-is [] depth e = absurd (false≢true e)
climbs-is (part ∷ parts) depth e =
    let r = climbs_step (is_up part) (is_down part) parts depth (not_both part)
    (λ other. climbs-is parts other) e in
    (suc r.0, omega (arith, r.1, counted is_down part parts r.0, counted is_up part parts r.0))

chosen : (z x : Bool) → (z ≡ false → x ≡ true) → (if z then true else x) ≡ true
chosen true x h = refl
chosen false x h = h refl

step_climbs : (u d : Bool) (parts : List (List ℕ)) (depth k : ℕ) → (u ≡ true → d ≡ false)
    → depth + (one d + downs parts k) < one u + ups parts k
    → ((other : ℕ) → other + downs parts k < ups parts k → climbs_from parts other ≡ true)
    → step u d depth (climbs_from parts) ≡ true
step_climbs true d parts depth k apart h more =
    let none : one d ≡ 0 = ap one (apart refl) in
    chosen (depth == 0) (climbs_from parts (depth - 1))
    (λ deep. more (depth - 1) (omega (arith, none, eqb-false depth 0 deep, h)))
step_climbs false true parts depth k apart h more = more (depth + 1) (omega (arith, h))
step_climbs false false parts depth k apart h more = more depth (omega (arith, h))

is-climbs : (parts : List (List ℕ)) (depth k : ℕ) → depth + downs parts k < ups parts k
    → climbs_from parts depth ≡ true
is-climbs [] depth zero h = absurd (omega (arith, h))
is-climbs [] depth (suc k) h = absurd (omega (arith, h))
is-climbs (part ∷ parts) depth zero h = absurd (omega (arith, h))
is-climbs (part ∷ parts) depth (suc k) h =
    step_climbs (is_up part) (is_down part) parts depth k (not_both part)
    (omega (arith, h, counted is_down part parts k, counted is_up part parts k))
    (λ other. is-climbs parts other k)

climbs-in : (path : List ℕ) → ClimbsFrom (parts_of path) 0 → Climbs path
climbs-in path e = (e.0, omega (arith, e.1))

in-climbs : (path : List ℕ) → Climbs path → ClimbsFrom (parts_of path) 0
in-climbs path e = (e.0, omega (arith, e.1))

pub decided : (r : Bool) (path : List ℕ) → r ≡ climbs_from (parts_of path) 0
    → IsTrue r ↔ Climbs path
decided r path same = (
  λ t. climbs-in path (climbs-is (parts_of path) 0 (sym same ∙ t)),
  λ e. same ∙ is-climbs (parts_of path) 0 (in-climbs path e).0 (in-climbs path e).1,
)

-- the part at i comes next
turned : (parts : List (List ℕ)) (i : ℕ) (part : List ℕ) (depth : ℕ)
    → (i < length parts) × (part ≡ get_or parts i part)
    → climbs_from (drop i parts) depth
    ≡ step (is_up part) (is_down part) depth (climbs_from (drop (i + 1) parts))
turned parts i part depth t =
    at_drop_more (λ (ps : List (List ℕ)). climbs_from ps depth) parts i part t.0
    ∙ ap (λ (p : List ℕ). step (is_up p) (is_down p) depth (climbs_from (drop (i + 1) parts)))
    (sym t.1)

-- it leads up, from the folder itself
pub up_from_top : (path : List ℕ) (i : ℕ) (part : List ℕ) (depth : ℕ)
    → (i < length (parts_of path)) × (part ≡ get_or (parts_of path) i part) → is_up part ≡ true
    → depth ≡ 0 → climbs_from (drop i (parts_of path)) depth ≡ climbs_from (parts_of path) 0
    → IsTrue true ↔ Climbs path
up_from_top path i part depth t up top same =
    let rest = climbs_from (drop (i + 1) (parts_of path)) in
    let here : step (is_up part) (is_down part) depth rest ≡ true =
    ap (λ (u : Bool). step u (is_down part) depth rest) up
    ∙ ap (λ (z : Bool). if z then true else rest (depth - 1)) (eq-eqb depth 0 top) in
    decided true path (sym here ∙ sym (turned (parts_of path) i part depth t) ∙ same)

-- it leads up, from below
pub rise : (parts : List (List ℕ)) (i : ℕ) (part : List ℕ) (depth : ℕ)
    → (i < length parts) × (part ≡ get_or parts i part) → is_up part ≡ true
    → (depth ≡ 0 → ⊥)
    → climbs_from (drop i parts) depth ≡ climbs_from (drop (i + 1) parts) (depth - 1)
rise parts i part depth t rises deep =
    let rest = climbs_from (drop (i + 1) parts) in
    turned parts i part depth t ∙ ap (λ (u : Bool). step u (is_down part) depth rest) rises
    ∙ ap (λ (z : Bool). if z then true else rest (depth - 1)) (ne_eqb depth 0 deep)

neither : (part : List ℕ) (still : Bool) → is_up part ≡ false → is_still part ≡ still
    → is_down part ≡ not still
neither part still up same =
    ap (λ (u : Bool). not (u || is_still part)) up ∙ ap (λ (s : Bool). not s) same

stepped : (part : List ℕ) (still : Bool) (depth : ℕ) (rest : ℕ → Bool) → is_up part ≡ false
    → is_still part ≡ still
    → step (is_up part) (is_down part) depth rest ≡ step false (not still) depth rest
stepped part still depth rest up same =
    ap (λ (u : Bool). step u (is_down part) depth rest) up
    ∙ ap (λ (d : Bool). step false d depth rest) (neither part still up same)

-- it leads down
pub fall : (parts : List (List ℕ)) (i : ℕ) (part : List ℕ) (depth : ℕ)
    → (i < length parts) × (part ≡ get_or parts i part) → is_up part ≡ false
    → is_still part ≡ false
    → climbs_from (drop i parts) depth ≡ climbs_from (drop (i + 1) parts) (depth + 1)
fall parts i part depth t low still =
    turned parts i part depth t
    ∙ stepped part false depth (climbs_from (drop (i + 1) parts)) low still

-- it leads nowhere
pub stay : (parts : List (List ℕ)) (i : ℕ) (part : List ℕ) (depth : ℕ)
    → (i < length parts) × (part ≡ get_or parts i part) → is_up part ≡ false
    → is_still part ≡ true
    → climbs_from (drop i parts) depth ≡ climbs_from (drop (i + 1) parts) depth
stay parts i part depth t low still =
    turned parts i part depth t
    ∙ stepped part true depth (climbs_from (drop (i + 1) parts)) low still

-- no part is left
pub at_end : (path : List ℕ) (i depth : ℕ) → length (parts_of path) ≤ i
    → climbs_from (drop i (parts_of path)) depth ≡ climbs_from (parts_of path) 0
    → IsTrue false ↔ Climbs path
at_end path i depth past same =
    decided false path (sym (at_drop_all (λ (ps : List (List ℕ)). climbs_from ps depth)
    (parts_of path) i past) ∙ same)

-- a loop has come one part on
pub more : {A : Type 0} (parts : List (List ℕ)) (xs : List A) (x : A) (depth after : ℕ) {whole : Bool}
    → climbs_from (drop (length xs) parts) depth ≡ whole
    → climbs_from (drop (length xs) parts) depth
    ≡ climbs_from (drop (length xs + 1) parts) after
    → climbs_from (drop (length (xs ++ x ∷ [])) parts) after ≡ whole
more parts xs x depth after same turn =
    ap (λ (n : ℕ). climbs_from (drop n parts) after) (length_push xs x) ∙ sym turn ∙ same
