-- The lists of a document: all meshes, nodes, scenes and skins.
use Rattle.std.specs.Prelude.{◌≡◌, length}
use Rattle.gltf_json.specs.declared.root.Root.{Root}
use Rattle.gltf_handles.specs.Positions.{Position, IsWhole}
use Rattle.gltf_scene.specs.declared.iter.AllMeshes.{AllMeshes}
use Rattle.gltf_scene.specs.declared.iter.AllNodes.{AllNodes}
use Rattle.gltf_scene.specs.declared.iter.AllScenes.{AllScenes}
use Rattle.gltf_scene.specs.declared.iter.AllSkins.{AllSkins}

abbrev pub AreMeshes : Root → Position AllMeshes → Type 0
AreMeshes r p = IsWhole (λ s. s.document.now ≡ r) (length r.meshes.items) p

abbrev pub AreNodes : Root → Position AllNodes → Type 0
AreNodes r p = IsWhole (λ s. s.document.now ≡ r) (length r.nodes.items) p

abbrev pub AreScenes : Root → Position AllScenes → Type 0
AreScenes r p = IsWhole (λ s. s.document.now ≡ r) (length r.scenes.items) p

abbrev pub AreSkins : Root → Position AllSkins → Type 0
AreSkins r p = IsWhole (λ s. s.document.now ≡ r) (length r.skins.items) p
