-- Meshes and their primitives (glTF 2.0, section 3.7).
use Rattle.std.specs.Prelude.{ℕ, ◌&&◌, ◌||◌, not, Bool, true, false, is_some, is_none, slice_get}
use Rattle.std.specs.Prelude.{codes}
use Rattle.gltf_json.specs.declared.root.Root.{Root}
use Rattle.gltf_json_record.specs.declared.validation.Checked.{Checked}
use Rattle.gltf_json_record.specs.declared.validation.Checked.TheVariants.{Valid}
use Rattle.gltf_json_geometry.specs.declared.accessor.ComponentType.{ComponentType}
use Rattle.gltf_json_geometry.specs.declared.accessor.ComponentType.TheVariants.{U8, U16, U32}
use Rattle.gltf_json_geometry.specs.declared.accessor.«Type».{«Type»}
use Rattle.gltf_json_geometry.specs.declared.accessor.«Type».TheVariants.{Scalar}
use Rattle.gltf_json_geometry.specs.declared.accessor.Accessor.{Accessor}
use Rattle.gltf_json_geometry.specs.declared.buffer.View.{View}
use Rattle.gltf_json_geometry.specs.declared.mesh.Mesh.{Mesh}
use Rattle.gltf_json_geometry.specs.declared.mesh.Primitive.{Primitive}
use Rattle.gltf_findings.specs.declared.code.Code.TheVariants.{EmptyEntity, NoPosition}
use Rattle.gltf_findings.specs.declared.code.Code.TheVariants.{IndicesInvalidFormat}
use Rattle.gltf_findings.specs.declared.code.Code.TheVariants.{IndicesWithByteStride}
use Rattle.gltf_findings.specs.Checks.{Checks, Condition, ◌&◌, member, optional_checks, list_checks}
use Rattle.gltf_inspect_meshes.specs.Facts.{has_elements}
use Rattle.gltf_inspect_records.specs.Attributes.{attributes_checks}
use Rattle.gltf_inspect_records.specs.Variants.{extensions_checks}
use Rattle.gltf_inspect_meshes.specs.Meanings.{first_of}

abbrev pub is_unsigned : Checked ComponentType → Bool
is_unsigned (Valid U8) = true
is_unsigned (Valid U16) = true
is_unsigned (Valid U32) = true
is_unsigned _ = false

abbrev pub is_scalar : Checked «Type» → Bool
is_scalar (Valid Scalar) = true
is_scalar _ = false

abbrev pub indices_stride_checks : View → Checks
indices_stride_checks v = Condition (is_none v.byte_stride) IndicesWithByteStride

abbrev pub indices_view_checks : Root → ℕ → Checks
indices_view_checks r i =
    optional_checks indices_stride_checks (slice_get r.buffer_views.items i)

-- the indices "MUST have SCALAR type and an unsigned integer component type" (5.24.2), as they
-- stand, and their view has no stride (3.6.2.4)
abbrev pub indices_checks : Root → Accessor → Checks
indices_checks r a =
    Condition (is_unsigned a.component_type && is_scalar a.type_ && not a.normalized)
    IndicesInvalidFormat
    & optional_checks (indices_view_checks r) a.buffer_view

abbrev pub indices_index_checks : Root → ℕ → Checks
indices_index_checks r i = optional_checks (indices_checks r) (slice_get r.accessors.items i)

abbrev pub has_attributes : Primitive → Bool
has_attributes p = has_elements p.attributes.entries || has_elements p.unknown_attributes.items

-- attributes hold one at least (5.24.1), and positions are to be there (3.7.2.1)
abbrev pub all_attributes_checks : Root → Primitive → Checks
all_attributes_checks r p =
    Condition (has_attributes p) EmptyEntity
    & Condition (is_some (first_of 1 p.attributes.entries)) NoPosition
    & attributes_checks r.accessors.items p.attributes.entries

abbrev pub primitive_checks : Root → Primitive → Checks
primitive_checks r p =
    member (codes "attributes") (all_attributes_checks r p)
    & member (codes "indices") (optional_checks (indices_index_checks r) p.indices)
    & member (codes "extensions") (optional_checks (extensions_checks r) p.extensions)

-- a mesh has one primitive at least (5.23.1)
abbrev pub mesh_checks : Root → Mesh → Checks
mesh_checks r m =
    member (codes "primitives") (Condition (has_elements m.primitives.items) EmptyEntity
    & list_checks (primitive_checks r) m.primitives.items)
