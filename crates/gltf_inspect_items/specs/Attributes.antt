-- The number of vertices of a primitive (glTF 2.0, section 3.7.2.1).
use Rattle.std.specs.Prelude.{ℕ, Bool, true, false, if◌then◌else◌, slice_get, List, [], ◌∷◌}
use Rattle.std.specs.Prelude.{Option, Some, None}
use Rattle.gltf_json_geometry.specs.declared.accessor.Accessor.{Accessor}
use Rattle.gltf_json_geometry.specs.declared.semantic.Semantic.{Semantic}
use Rattle.gltf_json_geometry.specs.declared.semantic.Semantic.TheVariants as meaning

abbrev pub are_positions : Semantic → Bool
are_positions meaning.Positions = true
are_positions _ = false

-- the accessor of the positions
abbrev pub positions : List (Semantic × ℕ) → Option ℕ
positions [] = None
positions (entry ∷ entries) = if are_positions entry.0 then Some entry.1 else positions entries

abbrev pub counted : Option Accessor → Option ℕ
counted None = None
counted (Some a) = Some a.count

abbrev pub vertices : List Accessor → List (Semantic × ℕ) → Option ℕ → Option ℕ
vertices accessors entries (Some i) = counted (slice_get accessors i)
vertices accessors [] None = None
vertices accessors (entry ∷ entries) None = counted (slice_get accessors entry.1)

-- the number of vertices: the items of the positions, and where there are none those of the first
-- attribute
abbrev pub vertex_count : List Accessor → List (Semantic × ℕ) → Option ℕ
vertex_count accessors entries = vertices accessors entries (positions entries)
