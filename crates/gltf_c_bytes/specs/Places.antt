-- Where bytes lie in the buffers of a file: those of buffers and views (glTF 2.0, section 3.6.1),
-- and of the items of accessors (section 3.6.2).
use Rattle.std.specs.Prelude.{ℕ, ◌+◌, ◌*◌, ◌-◌, ◌^◌, ◌==◌, ◌&&◌, ◌||◌, Bool, false}
use Rattle.std.specs.Prelude.{nat_lt, nat_le}
use Rattle.std.specs.Prelude.{length, slice_get, is_none}
use Rattle.std.specs.Prelude.{Option, Some, None, unwrap_or, option_map, if◌then◌else◌}
use Rattle.std.specs.Option.{option_and_then}
use Rattle.std.specs.Vec.{vec_ptr}
use Rattle.gltf_buffers.specs.declared.data.Data.{Data}
use Rattle.gltf_handles.specs.Sizes.{item_size}
use Rattle.gltf_json_geometry.specs.declared.accessor.Accessor.{Accessor}
use Rattle.gltf_json_geometry.specs.declared.buffer.View.{View}
use Rattle.gltf_c_bytes.specs.Shapes.{is_packed}
use Rattle.gltf_c_open.specs.declared.file.File.{File}
use Rattle.gltf_c_bytes.specs.declared.place.GltfBytes.{GltfBytes}

-- whether a buffer waits for its bytes
abbrev pub waits : ℕ → File → Bool
waits index file = unwrap_or (slice_get file.waiting.items index) false

-- bytes of a buffer: where it begins in memory, and which of its bytes they are
abbrev pub placed : Data → ℕ → ℕ → ℕ → GltfBytes
placed d offset size stride =
    record { at = vec_ptr d.0; offset = offset; size = size; stride = stride }

-- all bytes of a buffer that does not wait
abbrev pub buffer_place : ℕ → File → Option GltfBytes
buffer_place index file =
    if waits index file then None
    else option_map (λ d. placed d 0 (length d.0.items) 0) (slice_get file.buffers.items index)

-- whether so many bytes lie in so many others, from an offset on
abbrev pub lies_in : ℕ → ℕ → ℕ → Bool
lies_in offset size total = nat_le (offset + size) total

-- the bytes of a view that lies in its buffer
abbrev pub place_of_view : View → Data → Option GltfBytes
place_of_view v d =
    if lies_in (unwrap_or v.byte_offset 0) v.byte_length (length d.0.items)
    then Some (placed d (unwrap_or v.byte_offset 0) v.byte_length 0) else None

-- one of a buffer that waits has none, also where it has no bytes itself
abbrev pub view_place : ℕ → File → Option GltfBytes
view_place index file =
    option_and_then (λ v. if waits v.buffer file then None
    else option_and_then (place_of_view v) (slice_get file.buffers.items v.buffer))
    (slice_get file.document.buffer_views.items index)

-- the bytes from one item to the next: those of an item where the view states none
abbrev pub stride_of : View → ℕ → ℕ
stride_of v size =
    if unwrap_or v.byte_stride 0 == 0 then size else unwrap_or v.byte_stride 0

-- the bytes from the first item to the end of the last one: there are items, they do not overlap,
-- and memory can have so many
abbrev pub span_of : ℕ → ℕ → ℕ → Option ℕ
span_of count size stride =
    if (count == 0) || nat_lt stride size || nat_le (2 ^ 64) ((count - 1) * stride + size) then None
    else Some ((count - 1) * stride + size)

-- the items of a view that lie in it, and it in its buffer
abbrev pub items_within : Accessor → View → Data → ℕ → Option GltfBytes
items_within a v d size =
    if lies_in (unwrap_or a.byte_offset 0) size v.byte_length
    && lies_in (unwrap_or v.byte_offset 0) v.byte_length (length d.0.items)
    then Some (placed d (unwrap_or v.byte_offset 0 + unwrap_or a.byte_offset 0) size
    (stride_of v (item_size a)))
    else None

abbrev pub place_of_items : Accessor → View → Data → Option GltfBytes
place_of_items a v d =
    option_and_then (items_within a v d) (span_of a.count (item_size a) (stride_of v (item_size a)))

-- the items of an accessor as they lie in its view: none is overridden, none has padding inside
abbrev pub accessor_place : ℕ → File → Option GltfBytes
accessor_place index file =
    option_and_then (λ a. option_and_then (λ i. option_and_then (λ v. option_and_then
    (λ d. if is_none a.sparse && is_packed a then place_of_items a v d else None)
    (slice_get file.buffers.items v.buffer))
    (slice_get file.document.buffer_views.items i)) a.buffer_view)
    (slice_get file.document.accessors.items index)
