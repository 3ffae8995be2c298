-- Doubling the steps of a table that leads nowhere else changes nothing.
use Rattle.std.proofs.Common.{◌≡◌, ℕ, true, List, refl, ap, ◌∙◌, if◌then◌else◌, map}
use Rattle.gltf_inspect_nodes.specs.Roots.{led, are_fixed, twice, times_16, times_65536}

twice-fixed : (t : List ℕ) → are_fixed t t ≡ true → twice t ≡ t
twice-fixed t h = ap (λ b. if b then t else map (led t) t) h

pub times_16_fixed : (t : List ℕ) → are_fixed t t ≡ true → t ≡ times_16 t
times_16_fixed t h = rw (twice-fixed t h, twice-fixed t h, twice-fixed t h, twice-fixed t h) refl

pub times_65536_fixed : (t : List ℕ) → are_fixed t t ≡ true → t ≡ times_65536 t
times_65536_fixed t h =
    let once : t ≡ times_16 t = times_16_fixed t h in
    once ∙ ap (λ x. times_16 x) once ∙ ap (λ x. times_16 (times_16 x)) once
    ∙ ap (λ x. times_16 (times_16 (times_16 x))) once
