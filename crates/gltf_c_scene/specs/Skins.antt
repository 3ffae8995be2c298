-- Skins, and the lists of nodes that records hold, as C sees them (glTF 2.0, section 3.7.3).
use Rattle.std.specs.Prelude.{ℕ, List, [], ◌∷◌, length, slice_get, Option, option_map}
use Rattle.std.specs.Option.{option_and_then}
use Rattle.gltf_json.specs.declared.root.Root.{Root}
use Rattle.gltf_json_scene.specs.declared.skin.Skin.{Skin}
use Rattle.gltf_c_scene.specs.Values.{index_or_none}
use Rattle.gltf_c_scene.specs.declared.skin.GltfSkin.{GltfSkin}
use Rattle.gltf_c_scene.specs.declared.skin.NodeList.{NodeList}
use Rattle.gltf_c_scene.specs.declared.skin.NodeList.TheVariants.{Scene, Children, Joints}

-- what C sees of a skin (section 5.28)
abbrev pub shown_skin : Skin → GltfSkin
shown_skin s = record {
  joints = length s.joints.items;
  skeleton = index_or_none s.skeleton;
  inverse_bind_matrices = index_or_none s.inverse_bind_matrices;
  reserved = 0 ∷ 0 ∷ [];
}

abbrev pub shown_skin_of : ℕ → Root → Option GltfSkin
shown_skin_of index r = option_map shown_skin (slice_get r.skins.items index)

-- the list of each number from 0 on
abbrev pub list_kind_of : ℕ → Option NodeList
list_kind_of number = slice_get (Scene ∷ Children ∷ Joints ∷ []) number

-- the nodes that a record holds, by their indices
abbrev pub nodes_in : NodeList → ℕ → Root → Option (List ℕ)
nodes_in Scene index r = option_map (λ s. s.nodes.items) (slice_get r.scenes.items index)
nodes_in Children index r = option_map (λ n. n.children.items) (slice_get r.nodes.items index)
nodes_in Joints index r = option_map (λ s. s.joints.items) (slice_get r.skins.items index)

abbrev pub node_list_of : ℕ → ℕ → Root → Option (List ℕ)
node_list_of number index r = option_and_then (λ kind. nodes_in kind index r) (list_kind_of number)
