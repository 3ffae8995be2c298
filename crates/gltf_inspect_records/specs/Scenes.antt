-- Nodes (glTF 2.0, section 3.5.3) and skins (section 3.7.3).
use Rattle.std.specs.Prelude.{ℕ, ◌&&◌, ◌||◌, Bool, true, false, is_none, is_some, nat_le, slice_get, length}
use Rattle.std.specs.Prelude.{codes}
use Rattle.gltf_json.specs.declared.root.Root.{Root}
use Rattle.gltf_json_record.specs.declared.validation.Checked.{Checked}
use Rattle.gltf_json_record.specs.declared.validation.Checked.TheVariants.{Valid}
use Rattle.gltf_json_geometry.specs.declared.accessor.ComponentType.{ComponentType}
use Rattle.gltf_json_geometry.specs.declared.accessor.ComponentType.TheVariants.{F32}
use Rattle.gltf_json_geometry.specs.declared.accessor.«Type».{«Type»}
use Rattle.gltf_json_geometry.specs.declared.accessor.«Type».TheVariants.{Mat4}
use Rattle.gltf_json_geometry.specs.declared.accessor.Accessor.{Accessor}
use Rattle.gltf_json_scene.specs.declared.scene.Node.{Node}
use Rattle.gltf_json_scene.specs.declared.skin.Skin.{Skin}
use Rattle.gltf_findings.specs.declared.code.Code.TheVariants.{EmptyEntity, NodeMatrixTrs}
use Rattle.gltf_findings.specs.declared.code.Code.TheVariants.{UnsatisfiedDependency}
use Rattle.gltf_findings.specs.declared.code.Code.TheVariants.{IbmInvalidFormat, IbmCount}
use Rattle.gltf_findings.specs.Checks.{Checks, Condition, ◌&◌, member, optional_checks}
use Rattle.gltf_inspect_meshes.specs.Facts.{has_elements}

-- a node has "either a matrix or any combination of translation/rotation/scale" (5.25); where skin
-- or weights are defined, "mesh MUST also be defined" (5.25.3 and 5.25.9)
abbrev pub node_checks : Node → Checks
node_checks n =
    member (codes "matrix") (Condition (is_none n.matrix
    || is_none n.translation && is_none n.rotation && is_none n.scale) NodeMatrixTrs)
    & member (codes "skin") (Condition (is_none n.skin || is_some n.mesh) UnsatisfiedDependency)
    & member (codes "weights")
    (Condition (is_none n.weights || is_some n.mesh) UnsatisfiedDependency)

abbrev pub is_float : Checked ComponentType → Bool
is_float (Valid F32) = true
is_float _ = false

abbrev pub is_matrix : Checked «Type» → Bool
is_matrix (Valid Mat4) = true
is_matrix _ = false

-- the accessor has "elements of MAT4 type with floating-point components", as many as joints at
-- least (3.7.3.1)
abbrev pub matrices_checks : ℕ → Accessor → Checks
matrices_checks joints a =
    Condition (is_float a.component_type && is_matrix a.type_) IbmInvalidFormat
    & Condition (nat_le joints a.count) IbmCount

abbrev pub matrices_index_checks : Root → ℕ → ℕ → Checks
matrices_index_checks r joints i =
    optional_checks (matrices_checks joints) (slice_get r.accessors.items i)

-- a skin has one joint at least (5.28.3)
abbrev pub skin_checks : Root → Skin → Checks
skin_checks r s =
    member (codes "joints") (Condition (has_elements s.joints.items) EmptyEntity)
    & member (codes "inverseBindMatrices")
    (optional_checks (matrices_index_checks r (length s.joints.items)) s.inverse_bind_matrices)
