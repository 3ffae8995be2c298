-- Morph targets (glTF 2.0, section 3.7.2.2).
use Rattle.std.specs.Prelude.{ℕ, ◌==◌, ◌&&◌, Bool, true, is_some, length, slice_get, List, [], ◌∷◌}
use Rattle.std.specs.Prelude.{Option, codes}
use Rattle.gltf_json_geometry.specs.declared.accessor.Accessor.{Accessor}
use Rattle.gltf_json_geometry.specs.declared.mesh.MorphTarget.{MorphTarget}
use Rattle.gltf_json_geometry.specs.declared.mesh.Primitive.{Primitive}
use Rattle.gltf_json_geometry.specs.declared.semantic.Semantic.{Semantic}
use Rattle.gltf_findings.specs.declared.code.Code.TheVariants.{MorphTargetNoBaseAccessor}
use Rattle.gltf_findings.specs.declared.code.Code.TheVariants.{MorphTargetInvalidCount}
use Rattle.gltf_findings.specs.Checks.{Checks, Condition, ◌&◌, member, optional_checks, list_checks}
use Rattle.gltf_inspect_meshes.specs.Meanings.{first_of, count_of_index, agree}

-- the displacements are as many as the items of the attribute
abbrev pub displaced_count_checks : Option ℕ → Accessor → Checks
displaced_count_checks base a = Condition (agree base a.count) MorphTargetInvalidCount

-- "all morph target accessors MUST have the same count as the accessors of the original primitive",
-- and each displaces an attribute that is there
abbrev pub displaced_checks : List Accessor → Option ℕ → ℕ → Checks
displaced_checks accessors base i =
    Condition (is_some base) MorphTargetNoBaseAccessor
    & optional_checks (displaced_count_checks (count_of_index accessors base))
    (slice_get accessors i)

-- a target, where these are the accessors of the positions, the normals and the tangents that it
-- displaces
abbrev pub displacing_checks : List Accessor → Option ℕ → Option ℕ → Option ℕ → MorphTarget → Checks
displacing_checks accessors positions normals tangents t =
    member (codes "POSITION") (optional_checks (displaced_checks accessors positions) t.positions)
    & member (codes "NORMAL") (optional_checks (displaced_checks accessors normals) t.normals)
    & member (codes "TANGENT") (optional_checks (displaced_checks accessors tangents) t.tangents)

abbrev pub target_checks : List Accessor → List (Semantic × ℕ) → MorphTarget → Checks
target_checks accessors entries t =
    displacing_checks accessors (first_of 1 entries) (first_of 2 entries) (first_of 3 entries) t

abbrev pub targets_checks : List Accessor → Primitive → Checks
targets_checks accessors p =
    list_checks (target_checks accessors p.attributes.entries) p.targets.items

-- "all primitives MUST have the same number of morph targets": so many
abbrev pub have_targets : ℕ → List Primitive → Bool
have_targets count [] = true
have_targets count (p ∷ ps) = length p.targets.items == count && have_targets count ps

-- the number of the first primitive
abbrev pub target_count : List Primitive → ℕ
target_count [] = 0
target_count (p ∷ ps) = length p.targets.items
