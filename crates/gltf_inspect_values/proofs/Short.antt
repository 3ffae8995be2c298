-- What is shorter than a float has none.
use Rattle.std.proofs.Common.{◌≡◌, ◌<◌, ℕ, false, List, [], ◌∷◌, length, refl, arith}
use Rattle.gltf_inspect_values.specs.Components.{has_infinite}

pub short_has_none : (xs : List ℕ) → length xs < 4 → has_infinite xs ≡ false
short_has_none [] h = refl
short_has_none (a ∷ []) h = refl
short_has_none (a ∷ b ∷ []) h = refl
short_has_none (a ∷ b ∷ c ∷ []) h = refl
short_has_none (a ∷ b ∷ c ∷ d ∷ rest) h = absurd (omega (arith, h))
