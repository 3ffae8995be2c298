-- Views whose bytes are compressed, as C sees them.
use Rattle.std.specs.Prelude.{ℕ, [], ◌∷◌, codes, Result}
use Rattle.gltf_json.specs.declared.root.Root.{Root}
use Rattle.gltf_handles.specs.Sizes.{code_of}
use Rattle.gltf_extension_records.specs.Rules.{meshopt_compression_rules}
use Rattle.gltf_extension_records.specs.Views.{meshopt_compression}
use Rattle.gltf_extension_records.specs.declared.view.MeshoptCompression.{MeshoptCompression}
use Rattle.gltf_extension_records.specs.declared.view.MeshoptFilter.{MeshoptFilter}
use Rattle.gltf_extension_records.specs.declared.view.MeshoptFilter.TheVariants as filter
use Rattle.gltf_extension_records.specs.declared.view.MeshoptMode.{MeshoptMode}
use Rattle.gltf_extension_records.specs.declared.view.MeshoptMode.TheVariants as mode
use Rattle.gltf_c_scene.specs.declared.kind.Kind.TheVariants.{BufferViews}
use Rattle.gltf_c_extensions.specs.Reading.{IsShown}
use Rattle.gltf_c_extensions.specs.declared.reading.Missing.{Missing}
use Rattle.gltf_c_extensions.specs.declared.view.GltfMeshopt.{GltfMeshopt}

-- the numbers of modes and filters
abbrev pub mode_number : MeshoptMode → ℕ
mode_number mode.Attributes = 0
mode_number mode.Triangles = 1
mode_number mode.Indices = 2

abbrev pub filter_number : MeshoptFilter → ℕ
filter_number filter.None = 0
filter_number filter.Octahedral = 1
filter_number filter.Quaternion = 2
filter_number filter.Exponential = 3

-- EXT_meshopt_compression
abbrev pub shown_meshopt : MeshoptCompression → GltfMeshopt
shown_meshopt it = record {
  buffer = it.buffer;
  byte_offset = it.byte_offset;
  byte_length = it.byte_length;
  byte_stride = it.byte_stride;
  count = it.count;
  mode = code_of mode_number it.mode;
  filter = code_of filter_number it.filter;
  reserved = 0 ∷ 0 ∷ [];
}

abbrev pub IsMeshopt : ℕ → Root → Result GltfMeshopt Missing → Type 0
IsMeshopt index r =
    IsShown meshopt_compression meshopt_compression_rules shown_meshopt
    BufferViews (codes "EXT_meshopt_compression") index r
