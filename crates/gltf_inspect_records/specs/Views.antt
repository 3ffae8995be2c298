-- Buffers, their views (glTF 2.0, section 3.6.1), and the views of images (section 3.8.3).
use Rattle.std.specs.Prelude.{ℕ, ◌+◌, ◌%◌, ◌==◌, ◌&&◌, ◌||◌, nat_le, nat_lt, is_none, slice_get}
use Rattle.std.specs.Prelude.{codes}
use Rattle.gltf_json.specs.declared.root.Root.{Root}
use Rattle.gltf_json_geometry.specs.declared.buffer.Buffer.{Buffer}
use Rattle.gltf_json_geometry.specs.declared.buffer.View.{View}
use Rattle.gltf_json_scene.specs.declared.image.Image.{Image}
use Rattle.gltf_findings.specs.declared.code.Code.TheVariants.{ValueNotInRange, ValueMultipleOf}
use Rattle.gltf_findings.specs.declared.code.Code.TheVariants.{ViewTooBigByteStride, ViewTooLong}
use Rattle.gltf_findings.specs.declared.code.Code.TheVariants.{ImageViewWithByteStride}
use Rattle.gltf_findings.specs.declared.code.Code.TheVariants.{OneOfMismatch}
use Rattle.gltf_findings.specs.Checks.{Checks, Condition, ◌&◌, member, optional_checks}
use Rattle.gltf_inspect_meshes.specs.Facts.{or_zero}

-- byteLength is at least 1 (5.10.2)
abbrev pub buffer_checks : Buffer → Checks
buffer_checks b = member (codes "byteLength") (Condition (nat_le 1 b.byte_length) ValueNotInRange)

-- byteStride is at least 4 and at most 252, and a multiple of 4 (5.11.4), and not above the length
abbrev pub stride_checks : ℕ → ℕ → Checks
stride_checks len stride =
    Condition (nat_le 4 stride && nat_le stride 252) ValueNotInRange
    & Condition (stride % 4 == 0) ValueMultipleOf
    & Condition (nat_le stride len) ViewTooBigByteStride

-- the view begins inside the buffer, and then ends inside it
abbrev pub within_checks : View → Buffer → Checks
within_checks v b =
    member (codes "byteOffset")
    (Condition (nat_lt (or_zero v.byte_offset) b.byte_length) ViewTooLong)
    & member (codes "byteLength") (Condition (nat_le b.byte_length (or_zero v.byte_offset)
    || nat_le (or_zero v.byte_offset + v.byte_length) b.byte_length) ViewTooLong)

abbrev pub view_checks : Root → View → Checks
view_checks r v =
    member (codes "byteLength") (Condition (nat_le 1 v.byte_length) ValueNotInRange)
    & member (codes "byteStride") (optional_checks (stride_checks v.byte_length) v.byte_stride)
    & optional_checks (within_checks v) (slice_get r.buffers.items v.buffer)

-- byteStride is only for the views of vertex attributes (5.11.4)
abbrev pub image_view_checks : View → Checks
image_view_checks v = Condition (is_none v.byte_stride) ImageViewWithByteStride

abbrev pub image_index_checks : Root → ℕ → Checks
image_index_checks r i = optional_checks image_view_checks (slice_get r.buffer_views.items i)

-- uri "MUST NOT be defined when bufferView is defined" (5.18.1)
abbrev pub image_checks : Root → Image → Checks
image_checks r i =
    Condition (is_none i.uri || is_none i.buffer_view) OneOfMismatch
    & member (codes "bufferView") (optional_checks (image_index_checks r) i.buffer_view)
