-- The extensions of nodes that the loader keeps as JSON, as C sees them.
use Rattle.std.specs.Prelude.{ℕ, [], ◌∷◌, codes, Result}
use Rattle.gltf_json.specs.declared.root.Root.{Root}
use Rattle.gltf_validation.specs.Rules.{Nothing}
use Rattle.gltf_extension_records.specs.Nodes.{mesh_gpu_instancing, node_visibility}
use Rattle.gltf_extension_records.specs.Rules.{mesh_gpu_instancing_rules}
use Rattle.gltf_extension_records.specs.declared.node.MeshGpuInstancing.{MeshGpuInstancing}
use Rattle.gltf_extension_records.specs.declared.node.NodeVisibility.{NodeVisibility}
use Rattle.gltf_c_scene.specs.Values.{index_or_none, one_or_zero}
use Rattle.gltf_c_scene.specs.declared.kind.Kind.TheVariants.{Nodes}
use Rattle.gltf_c_extensions.specs.Reading.{IsShown}
use Rattle.gltf_c_extensions.specs.declared.node.GltfInstancing.{GltfInstancing}
use Rattle.gltf_c_extensions.specs.declared.node.GltfVisibility.{GltfVisibility}
use Rattle.gltf_c_extensions.specs.declared.reading.Missing.{Missing}

-- EXT_mesh_gpu_instancing
abbrev pub shown_instancing : MeshGpuInstancing → GltfInstancing
shown_instancing it = record {
  translation = index_or_none it.attributes.translation;
  rotation = index_or_none it.attributes.rotation;
  scale = index_or_none it.attributes.scale;
  reserved = 0 ∷ 0 ∷ 0 ∷ 0 ∷ 0 ∷ [];
}

abbrev pub IsInstancing : ℕ → Root → Result GltfInstancing Missing → Type 0
IsInstancing index r =
    IsShown mesh_gpu_instancing mesh_gpu_instancing_rules shown_instancing
    Nodes (codes "EXT_mesh_gpu_instancing") index r

-- KHR_node_visibility
abbrev pub shown_visibility : NodeVisibility → GltfVisibility
shown_visibility it = record {
  visible = one_or_zero it.visible;
  reserved_word = 0;
  reserved = 0 ∷ 0 ∷ 0 ∷ [];
}

abbrev pub IsVisibility : ℕ → Root → Result GltfVisibility Missing → Type 0
IsVisibility index r =
    IsShown node_visibility (λ _ _. Nothing) shown_visibility
    Nodes (codes "KHR_node_visibility") index r
