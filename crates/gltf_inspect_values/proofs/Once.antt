-- What was found at an index stays what is found there.
use Rattle.std.proofs.Common.{◌≡◌, ℕ, zero, suc, ◌⊎◌, inl, inr, List, [], ◌∷◌, set, Option, Some, None}
use Rattle.std.proofs.Common.{replicate, refl, sym, ap, ◌∙◌}
use Rattle.std.specs.Prelude.{slice_get}
use Rattle.gltf_json.specs.declared.root.Root.{Root}
use Rattle.gltf_inspect_items.specs.Reading.{Bytes}
use Rattle.gltf_inspect_values.specs.Times.{AreFound, found_in_times, times}
use Rattle.gltf_inspect_values.specs.declared.times.Found.{Found}

-- what is at an index after a write: what was written, or what was there
at_write : {X : Type 0} (xs : List X) (i j : ℕ) (x y : X) → slice_get (set xs i x) j ≡ Some y
    → (slice_get xs j ≡ Some y) ⊎ ((i ≡ j) × (x ≡ y))
at_write [] i j x y is = cc
at_write (z ∷ xs) zero zero x y is = inr (refl, cc)
at_write (z ∷ xs) zero (suc j) x y is = inl is
at_write (z ∷ xs) (suc i) zero x y is = inl is
at_write (z ∷ xs) (suc i) (suc j) x y is = elim (at_write xs i j x y is) [
  | inl before ↦ inl before
  | inr here ↦ inr (ap suc here.0, here.1)
]

pub still : (r : Root) (bytes : Bytes) (table : List (Option Found)) (i : ℕ) (found : Found)
    → AreFound r bytes table → found ≡ found_in_times (times r bytes i)
    → AreFound r bytes (set table i (Some found))
still r bytes table i found before here j other is =
    elim (at_write table i j (Some found) (Some other) is) [
      | inl there ↦ before j other there
      | inr now ↦
          let same : found ≡ other = cc (now.1) in
          sym same ∙ here ∙ ap (λ k. found_in_times (times r bytes k)) now.0
    ]

none_at : {X : Type 0} (n i : ℕ) (x : X)
    → slice_get (replicate n (let none : Option X = None in none)) i ≡ Some (Some x) → ⊥
none_at zero i x is = cc
none_at (suc n) zero x is = cc
none_at (suc n) (suc i) x is = none_at n i x is

pub none_yet : (r : Root) (bytes : Bytes) (n : ℕ) → AreFound r bytes (replicate n None)
none_yet r bytes n i found is = absurd (none_at n i found is)
