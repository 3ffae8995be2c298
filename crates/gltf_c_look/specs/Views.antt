-- Views of buffers, as C sees them (glTF 2.0, section 5.11).
use Rattle.std.specs.Prelude.{ℕ, [], ◌∷◌, slice_get, Option, unwrap_or, option_map}
use Rattle.gltf_json.specs.declared.root.Root.{Root}
use Rattle.gltf_json_geometry.specs.declared.buffer.Target.{Target}
use Rattle.gltf_json_geometry.specs.declared.buffer.Target.TheVariants.{ArrayBuffer}
use Rattle.gltf_json_geometry.specs.declared.buffer.Target.TheVariants.{ElementArrayBuffer}
use Rattle.gltf_json_geometry.specs.declared.buffer.View.{View}
use Rattle.gltf_json_record.specs.declared.validation.Checked.{Checked}
use Rattle.gltf_handles.specs.Sizes.{code_of}
use Rattle.gltf_c_look.specs.declared.view.GltfBufferView.{GltfBufferView}

-- the number of a target (section 5.11.5), or 0 where there is none
abbrev pub target_number : Target → ℕ
target_number ArrayBuffer = 34962
target_number ElementArrayBuffer = 34963

abbrev pub target_of : Option (Checked Target) → ℕ
target_of target = unwrap_or (option_map (code_of target_number) target) 0

-- what C sees of a view
abbrev pub shown_view : View → GltfBufferView
shown_view v = record {
  buffer = v.buffer;
  byte_offset = unwrap_or v.byte_offset 0;
  byte_length = v.byte_length;
  byte_stride = unwrap_or v.byte_stride 0;
  target = target_of v.target;
  reserved_word = 0;
  reserved = 0 ∷ 0 ∷ [];
}

abbrev pub view_of : ℕ → Root → Option GltfBufferView
view_of index r = option_map shown_view (slice_get r.buffer_views.items index)
