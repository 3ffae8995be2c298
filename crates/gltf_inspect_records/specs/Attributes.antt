-- The attributes of a primitive (glTF 2.0, section 3.7.2.1).
use Rattle.std.specs.Prelude.{ℕ, ◌==◌, ◌||◌, not, Bool, is_some, slice_get, List, [], ◌∷◌}
use Rattle.std.specs.Prelude.{Option, Some, None}
use Rattle.gltf_json_geometry.specs.Semantics.{semantic_name}
use Rattle.gltf_json_geometry.specs.declared.accessor.Accessor.{Accessor}
use Rattle.gltf_json_geometry.specs.declared.semantic.Semantic.{Semantic}
use Rattle.gltf_json_record.specs.Place.{keyed}
use Rattle.gltf_findings.specs.declared.code.Code.TheVariants.{UnequalAccessorCount}
use Rattle.gltf_findings.specs.declared.code.Code.TheVariants.{PositionWithoutBounds}
use Rattle.gltf_findings.specs.declared.code.Code.TheVariants.{TangentWithoutNormal}
use Rattle.gltf_findings.specs.Checks.{Checks, Nothing, Condition, At, ◌&◌, optional_checks}
use Rattle.gltf_inspect_meshes.specs.Facts.{is_bounded}
use Rattle.gltf_inspect_meshes.specs.Meanings.{meaning_number, first_of, count_at, agree}

abbrev pub vertices : List Accessor → List (Semantic × ℕ) → Option ℕ → Option ℕ
vertices accessors entries (Some i) = count_at accessors i
vertices accessors [] None = None
vertices accessors (entry ∷ entries) None = count_at accessors entry.1

-- the number of vertices: the items of the positions, and where there are none those of the first
-- attribute
abbrev pub vertex_count : List Accessor → List (Semantic × ℕ) → Option ℕ
vertex_count accessors entries = vertices accessors entries (first_of 1 entries)

-- "all attribute accessors for a given primitive MUST have the same count", and "POSITION accessor
-- MUST have its min and max properties defined"
abbrev pub attribute_checks : Option ℕ → Semantic → Accessor → Checks
attribute_checks count semantic a =
    Condition (agree count a.count) UnequalAccessorCount
    & Condition (not (meaning_number semantic == 1) || is_bounded a) PositionWithoutBounds

-- when there are no normals, tangents are to be ignored
abbrev pub entry_checks : Option ℕ → Bool → List Accessor → Semantic × ℕ → Checks
entry_checks count has_normals accessors entry =
    Condition (not (meaning_number entry.0 == 3) || has_normals) TangentWithoutNormal
    & optional_checks (attribute_checks count entry.0) (slice_get accessors entry.1)

abbrev pub entries_checks : Option ℕ → Bool → List Accessor → List (Semantic × ℕ) → Checks
entries_checks count has_normals accessors [] = Nothing
entries_checks count has_normals accessors (entry ∷ entries) =
    At (keyed (semantic_name entry.0)) (entry_checks count has_normals accessors entry)
    & entries_checks count has_normals accessors entries

abbrev pub attributes_checks : List Accessor → List (Semantic × ℕ) → Checks
attributes_checks accessors entries =
    entries_checks (vertex_count accessors entries) (is_some (first_of 2 entries)) accessors entries
