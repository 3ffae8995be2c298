-- Small facts that checks are made of.
use Rattle.std.specs.Prelude.{ℕ, Bool, true, false, is_some, List, [], ◌∷◌, Option, Some, None}
use Rattle.std.specs.Prelude.{◌&&◌}
use Rattle.gltf_json_geometry.specs.declared.accessor.Accessor.{Accessor}

-- an offset stands for 0 where it is absent
abbrev pub or_zero : Option ℕ → ℕ
or_zero None = 0
or_zero (Some n) = n

abbrev pub has_elements : {T : Type 0} → List T → Bool
has_elements [] = false
has_elements (x ∷ xs) = true

-- an accessor states the least and the greatest value of each component
abbrev pub is_bounded : Accessor → Bool
is_bounded a = is_some a.min && is_some a.max
