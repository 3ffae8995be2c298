-- Buffers, accessors and images as C sees them (glTF 2.0, sections 5.1, 5.10 and 5.18).
use Rattle.std.specs.Prelude.{ℕ, Bool, [], ◌∷◌, length, slice_get, Option}
use Rattle.std.specs.Prelude.{unwrap_or, option_map}
use Rattle.std.specs.Option.{option_and_then}
use Rattle.gltf_json.specs.declared.root.Root.{Root}
use Rattle.gltf_json_geometry.specs.declared.accessor.Accessor.{Accessor}
use Rattle.gltf_handles.specs.Sizes.{code_of, item_size}
use Rattle.gltf_access.specs.Components.{layout_of, padded_size}
use Rattle.gltf_c_open.specs.declared.file.File.{File}
use Rattle.gltf_c_scene.specs.Values.{index_or_none, one_or_zero}
use Rattle.gltf_c_bytes.specs.Places.{waits, stride_of}
use Rattle.gltf_c_bytes.specs.Shapes.{component_number, many_of_code, is_matrix}
use Rattle.gltf_c_bytes.specs.declared.info.GltfAccessor.{GltfAccessor}
use Rattle.gltf_c_bytes.specs.declared.info.GltfBuffer.{GltfBuffer}
use Rattle.gltf_c_bytes.specs.declared.info.GltfImage.{GltfImage}

-- what C sees of a buffer
abbrev pub shown_buffer : ℕ → ℕ → Bool → GltfBuffer
shown_buffer byte_length size waits = record {
  no_bytes = 0;
  size = size;
  byte_length = byte_length;
  waits = one_or_zero waits;
  reserved_word = 0;
  reserved = 0 ∷ 0 ∷ [];
}

abbrev pub buffer_of : ℕ → File → Option GltfBuffer
buffer_of index file =
    option_and_then (λ b. option_map
    (λ d. shown_buffer b.byte_length (length d.0.items) (waits index file))
    (slice_get file.buffers.items index))
    (slice_get file.document.buffers.items index)

-- the bytes from one item to the next: those that the view states, else those of an item with its
-- padding (section 3.6.2.4)
abbrev pub view_stride_of : Root → Accessor → ℕ
view_stride_of r a =
    unwrap_or (option_map (λ v. stride_of v (padded_size (layout_of a)))
    (option_and_then (λ i. slice_get r.buffer_views.items i) a.buffer_view))
    (padded_size (layout_of a))

abbrev pub sparse_count : Accessor → ℕ
sparse_count a = unwrap_or (option_map (λ s. s.count) a.sparse) 0

-- what C sees of an accessor
abbrev pub shown_accessor : Accessor → ℕ → GltfAccessor
shown_accessor a stride = record {
  count = a.count;
  item_size = item_size a;
  component_type = code_of component_number a.component_type;
  components = many_of_code a.type_;
  is_matrix = one_or_zero (is_matrix a.type_);
  normalized = one_or_zero a.normalized;
  sparse = sparse_count a;
  view = index_or_none a.buffer_view;
  byte_offset = unwrap_or a.byte_offset 0;
  stride = stride;
  no_data = 0;
  reserved = 0 ∷ 0 ∷ 0 ∷ 0 ∷ [];
}

abbrev pub accessor_of : ℕ → File → Option GltfAccessor
accessor_of index file =
    option_map (λ a. shown_accessor a (view_stride_of file.document a))
    (slice_get file.document.accessors.items index)

-- where the bytes of an image are
abbrev pub view_length : Root → Option ℕ → ℕ
view_length r view =
    unwrap_or (option_map (λ v. v.byte_length)
    (option_and_then (λ i. slice_get r.buffer_views.items i) view)) 0

abbrev pub image_of : ℕ → File → Option GltfImage
image_of index file =
    option_map (λ i. record {
      view = index_or_none i.buffer_view;
      no_bytes = 0;
      size = view_length file.document i.buffer_view;
      reserved = 0 ∷ 0 ∷ [];
    })
    (slice_get file.document.images.items index)
