-- Attributes by their meaning (glTF 2.0, section 3.7.2.1).
use Rattle.std.specs.Prelude.{ℕ, ◌==◌, if◌then◌else◌, Bool, true, slice_get, List, [], ◌∷◌}
use Rattle.std.specs.Prelude.{Option, Some, None}
use Rattle.gltf_json_geometry.specs.declared.accessor.Accessor.{Accessor}
use Rattle.gltf_json_geometry.specs.declared.semantic.Semantic.{Semantic}
use Rattle.gltf_json_geometry.specs.declared.semantic.Semantic.TheVariants as meaning

-- a number for the kind of an attribute
abbrev pub meaning_number : Semantic → ℕ
meaning_number (meaning.Extras name) = 0
meaning_number meaning.Positions = 1
meaning_number meaning.Normals = 2
meaning_number meaning.Tangents = 3
meaning_number (meaning.Colors set) = 4
meaning_number (meaning.TexCoords set) = 5
meaning_number (meaning.Joints set) = 6
meaning_number (meaning.Weights set) = 7

-- the number of the set: n of COLOR_n, 0 where there are no sets
abbrev pub set_number : Semantic → ℕ
set_number (meaning.Extras name) = 0
set_number meaning.Positions = 0
set_number meaning.Normals = 0
set_number meaning.Tangents = 0
set_number (meaning.Colors set) = set
set_number (meaning.TexCoords set) = set
set_number (meaning.Joints set) = set
set_number (meaning.Weights set) = set

-- the accessor of the first attribute of this kind
abbrev pub first_of : ℕ → List (Semantic × ℕ) → Option ℕ
first_of n [] = None
first_of n (entry ∷ entries) =
    if meaning_number entry.0 == n then Some entry.1 else first_of n entries

abbrev pub counted : Option Accessor → Option ℕ
counted None = None
counted (Some a) = Some a.count

-- the number of items of the accessor at an index
abbrev pub count_at : List Accessor → ℕ → Option ℕ
count_at accessors i = counted (slice_get accessors i)

-- the same, where there is an index
abbrev pub count_of_index : List Accessor → Option ℕ → Option ℕ
count_of_index accessors None = None
count_of_index accessors (Some i) = count_at accessors i

-- two numbers of items are not known to differ
abbrev pub agree : Option ℕ → ℕ → Bool
agree (Some n) m = n == m
agree None m = true
