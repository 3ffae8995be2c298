-- What is within an extent does not change it.
use Rattle.std.proofs.Common.{◌≡◌, true, false, refl, ◌&&◌, sym}
use Rattle.std.specs.Prelude.{Some}
use Rattle.std.proofs.lemmas.Bool.{and_parts, false_from_ne_true}
use Rattle.std.proofs.lemmas.Float.{T_from_true, lt_of_lt_of_le, lt_irrefl}
use Rattle.std.specs.Float.{Float}
use Rattle.std.specs.Float.Ieee.{lt, le}
use Rattle.gltf_inspect_values.specs.declared.extent.Extent.{Extent}
use Rattle.gltf_inspect_values.specs.Extents.{widened}

-- what is at most another is not above it
not_less : (x y : Float) → le x y ≡ true → lt y x ≡ false
not_less x y h = false_from_ne_true (lt y x)
    (λ below. lt_irrefl y (lt_of_lt_of_le y x y (T_from_true (lt y x) below)
    (T_from_true (le x y) h)))

pub within_same : (e : Extent) (x : Float) → (le e.least x && le x e.greatest) ≡ true
    → e ≡ widened e (Some x)
within_same e x h =
    let parts = and_parts (le e.least x) (le x e.greatest) h in
    sym (rw (not_less e.least x parts.0, not_less x e.greatest parts.1) refl)
