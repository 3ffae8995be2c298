-- Accessors and their sparse parts (glTF 2.0, section 3.6.2).
use Rattle.std.specs.Prelude.{ℕ, ◌+◌, ◌%◌, ◌==◌, ◌||◌, not, nat_le, nat_lt, Bool, true, false}
use Rattle.std.specs.Prelude.{slice_get, codes, is_none, is_some}
use Rattle.gltf_json.specs.declared.root.Root.{Root}
use Rattle.gltf_json_record.specs.declared.validation.Checked.{Checked}
use Rattle.gltf_json_record.specs.declared.validation.Checked.TheVariants.{Valid}
use Rattle.gltf_json_geometry.specs.declared.accessor.ComponentType.{ComponentType}
use Rattle.gltf_json_geometry.specs.declared.accessor.ComponentType.TheVariants.{U32, F32}
use Rattle.gltf_json_geometry.specs.declared.accessor.Accessor.{Accessor}
use Rattle.gltf_json_geometry.specs.declared.accessor.sparse.Sparse.{Sparse}
use Rattle.gltf_json_geometry.specs.declared.buffer.View.{View}
use Rattle.gltf_findings.specs.declared.code.Code.TheVariants.{ValueNotInRange, NormalizedInvalid}
use Rattle.gltf_findings.specs.declared.code.Code.TheVariants.{OffsetAlignment}
use Rattle.gltf_findings.specs.declared.code.Code.TheVariants.{TotalOffsetAlignment}
use Rattle.gltf_findings.specs.declared.code.Code.TheVariants.{AccessorTooLong, SmallByteStride}
use Rattle.gltf_findings.specs.declared.code.Code.TheVariants.{SparseCountOutOfRange}
use Rattle.gltf_findings.specs.declared.code.Code.TheVariants.{UnsatisfiedDependency}
use Rattle.gltf_findings.specs.Checks.{Checks, Condition, ◌&◌, member, optional_checks}
use Rattle.gltf_inspect_meshes.specs.Facts.{or_zero}
use Rattle.gltf_inspect_meshes.specs.Items.{component_size, last_size, fit, size_of, packed}
use Rattle.gltf_inspect_meshes.specs.Items.{stride_in}

-- normalized "MUST NOT be set to true for accessors with FLOAT or UNSIGNED_INT component type"
-- (5.1.4)
abbrev pub may_be_normalized : Checked ComponentType → Bool
may_be_normalized (Valid U32) = false
may_be_normalized (Valid F32) = false
may_be_normalized _ = true

-- "the offset of an accessor into a bufferView [..] and the offset of an accessor into a buffer
-- [..] MUST be a multiple of the size of the accessor's component type", "each accessor MUST fit
-- its bufferView", and a stride is at least the size of an item (3.6.2.4)
abbrev pub in_view_checks : Accessor → View → Checks
in_view_checks a v =
    Condition (nat_le (packed a) (stride_in a v.byte_stride)) SmallByteStride
    & member (codes "byteOffset")
    (Condition ((or_zero a.byte_offset + or_zero v.byte_offset) % size_of a == 0)
    TotalOffsetAlignment
    & Condition (a.count == 0 || nat_lt (stride_in a v.byte_stride) (packed a)
    || fit (or_zero a.byte_offset) (stride_in a v.byte_stride) a.count
    (last_size a.type_ (size_of a)) v.byte_length) AccessorTooLong)

-- the same of count packed items of a sparse part, each of so many bytes
abbrev pub part_checks : ℕ → ℕ → ℕ → ℕ → ℕ → View → Checks
part_checks offset align stride last count v =
    member (codes "byteOffset")
    (Condition ((offset + or_zero v.byte_offset) % align == 0) TotalOffsetAlignment
    & Condition (count == 0 || fit offset stride count last v.byte_length) AccessorTooLong)

-- as many items are replaced as there are, at most (5.2.1)
abbrev pub sparse_checks : Root → Accessor → Sparse → Checks
sparse_checks r a s =
    member (codes "count") (Condition (nat_le 1 s.count) ValueNotInRange
    & Condition (nat_le s.count a.count) SparseCountOutOfRange)
    & member (codes "indices") (optional_checks
    (part_checks s.indices.byte_offset (component_size s.indices.component_type)
    (component_size s.indices.component_type) (component_size s.indices.component_type) s.count)
    (slice_get r.buffer_views.items s.indices.buffer_view))
    & member (codes "values") (optional_checks
    (part_checks s.values.byte_offset (size_of a) (packed a) (last_size a.type_ (size_of a))
    s.count)
    (slice_get r.buffer_views.items s.values.buffer_view))

abbrev pub base_checks : Root → Accessor → ℕ → Checks
base_checks r a i = optional_checks (in_view_checks a) (slice_get r.buffer_views.items i)

-- count is at least 1 (5.1.5), and byteOffset "MUST NOT be defined when bufferView is undefined"
-- (5.1.2)
abbrev pub member_checks : Accessor → Checks
member_checks a =
    member (codes "count") (Condition (nat_le 1 a.count) ValueNotInRange)
    & member (codes "normalized")
    (Condition (not a.normalized || may_be_normalized a.component_type) NormalizedInvalid)
    & member (codes "byteOffset")
    (Condition (or_zero a.byte_offset % size_of a == 0) OffsetAlignment
    & Condition (is_none a.byte_offset || is_some a.buffer_view) UnsatisfiedDependency)

abbrev pub accessor_checks : Root → Accessor → Checks
accessor_checks r a =
    member_checks a
    & optional_checks (base_checks r a) a.buffer_view
    & member (codes "sparse") (optional_checks (sparse_checks r a) a.sparse)
