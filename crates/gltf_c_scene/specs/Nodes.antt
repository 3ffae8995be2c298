-- Nodes and scenes, as C sees them (glTF 2.0, section 3.5).
use Rattle.std.specs.Prelude.{ℕ, ◌+◌, ◌*◌, [], ◌∷◌, length, slice_get, is_some}
use Rattle.std.specs.Prelude.{Option, option_map}
use Rattle.std.specs.Option.{option_and_then}
use Rattle.gltf_json.specs.declared.root.Root.{Root}
use Rattle.gltf_json_scene.specs.declared.scene.Node.{Node}
use Rattle.gltf_json_scene.specs.declared.scene.Scene.{Scene}
use Rattle.gltf_c_scene.specs.Values.{one_or_zero, index_or_none, numbers_else, listed_numbers}
use Rattle.gltf_c_scene.specs.declared.node.GltfNode.{GltfNode}
use Rattle.gltf_c_scene.specs.declared.node.GltfScene.{GltfScene}
use Rattle.gltf_numbers.specs.Defaults.{default_matrix, default_rotation, default_scale}
use Rattle.gltf_numbers.specs.Defaults.{default_translation}

-- the light of a node (KHR_lights_punctual)
abbrev pub light_of : Node → ℕ
light_of n =
    index_or_none (option_map (λ e. e.light)
    (option_and_then (λ e. e.khr_lights_punctual) n.extensions))

-- which members of a transformation the document states, as bits that are added up
abbrev pub transform_bits : Node → ℕ
transform_bits n =
    one_or_zero (is_some n.matrix) + 2 * one_or_zero (is_some n.translation)
    + 4 * one_or_zero (is_some n.rotation) + 8 * one_or_zero (is_some n.scale)

-- what C sees of a node (section 5.25)
abbrev pub shown_node : Node → GltfNode
shown_node n = record {
  mesh = index_or_none n.mesh;
  skin = index_or_none n.skin;
  camera = index_or_none n.camera;
  light = light_of n;
  children = length n.children.items;
  weights = length (listed_numbers n.weights);
  has = transform_bits n;
  reserved_word = 0;
  matrix = numbers_else 16 default_matrix n.matrix;
  translation = numbers_else 3 default_translation n.translation;
  rotation = numbers_else 4 default_rotation n.rotation;
  scale = numbers_else 3 default_scale n.scale;
  reserved = 0 ∷ 0 ∷ 0 ∷ 0 ∷ [];
}

abbrev pub shown_node_of : ℕ → Root → Option GltfNode
shown_node_of index r = option_map shown_node (slice_get r.nodes.items index)

-- what C sees of a scene (section 5.27)
abbrev pub shown_scene : Scene → GltfScene
shown_scene s = record { nodes = length s.nodes.items; reserved = 0 ∷ 0 ∷ [] }

abbrev pub shown_scene_of : ℕ → Root → Option GltfScene
shown_scene_of index r = option_map shown_scene (slice_get r.scenes.items index)
