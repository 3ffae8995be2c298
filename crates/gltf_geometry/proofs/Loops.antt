-- The lines of a loop are those of a strip and the one that closes it.
use Rattle.std.proofs.Common.{◌≡◌, ℕ, ◌+◌, ◌-◌, ◌<◌, ◌≤◌, List, [], ◌∷◌, ◌++◌, map, length}
use Rattle.std.proofs.Common.{refl, inl, inr, sym, ◌∙◌, arith}
use Rattle.std.specs.Prelude.{slice_index}
use Rattle.std.specs.List.{range_with_len}
use Rattle.std.proofs.lemmas.List.{same_lists}
use Rattle.std.proofs.lemmas.List.FromFn.{length-map-range_with_len, get_or-map-range_with_len}
use Rattle.std.proofs.lemmas.List.FromFn.{map-range_with_len_more}
use Rattle.std.proofs.lemmas.Bool.{cases_lt}
use Rattle.std.proofs.lemmas.Bool.Decides.{nat_tests}
use Rattle.gltf_geometry.specs.Modes.{line_loop, closing}
use Rattle.gltf_geometry.specs.Topologies.{line, line_count, lines_by}
use Rattle.gltf_geometry.specs.declared.line.LineTopology.TheVariants.{Loop, Strip}

same_below : {X : Type 0} (f g : ℕ → X) (n : ℕ) → ((i : ℕ) → i < n → f i ≡ g i)
    → map f (range_with_len 0 n) ≡ map g (range_with_len 0 n)
same_below f g n same =
    same_lists _ _ (length-map-range_with_len f 0 n ∙ sym (length-map-range_with_len g 0 n))
    (λ i d h.
    let below : i < n = omega (arith, length-map-range_with_len f 0 n) in
    get_or-map-range_with_len f 0 n i i d below (omega arith)
    ∙ same i below ∙ sym (get_or-map-range_with_len g 0 n i i d below (omega arith)))

before_last : (v : List ℕ) (i : ℕ) → i + 1 < length v → line Loop v i ≡ line Strip v i
before_last v i h = grind (arith, nat_tests)

last : (v : List ℕ) → 2 ≤ length v
    → line Loop v (length v - 1) ≡ slice_index v (length v - 1) ∷ slice_index v 0 ∷ []
last v h =
    let end : length v - 1 + 1 ≡ length v = omega arith in
    grind (arith, nat_tests)

few : (n : ℕ) → n < 2 → line_count Loop n ≡ 0
few n h = grind (arith, nat_tests)

enough : (n : ℕ) → 2 ≤ n → line_count Loop n ≡ n - 1 + 1
enough n h = grind (arith, nat_tests)

not_closed : (v : List ℕ) → length v < 2 → closing v ≡ []
not_closed v h = grind (arith, nat_tests)

closed : (v : List ℕ) → 2 ≤ length v
    → closing v ≡ (slice_index v (length v - 1) ∷ slice_index v 0 ∷ []) ∷ []
closed v h = grind (arith, nat_tests)

joined : {X : Type 0} (xs ys : List X) (x y : X) → xs ≡ ys → x ≡ y → xs ++ x ∷ [] ≡ ys ++ y ∷ []
joined xs ys x y front end = cc

pub loop_closes : (v : List ℕ) → lines_by Loop v ≡ line_loop v
loop_closes v =
    elim (cases_lt (length v) 2) [
      | inl less ↦
          let none : length v - 1 ≡ 0 = omega arith in
          rw (few (length v) less, not_closed v less, none) refl
      | inr more ↦
          rw (enough (length v) more, closed v more)
          (map-range_with_len_more (line Loop v) 0 (length v - 1) (length v - 1) (omega arith)
          ∙ joined _ _ _ _
          (same_below (line Loop v) (line Strip v) (length v - 1)
          (λ i h. before_last v i (omega arith)))
          (last v more))
    ]
