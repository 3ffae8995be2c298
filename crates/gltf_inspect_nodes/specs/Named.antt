-- Nodes that are named by lists of a document.
use Rattle.std.specs.Prelude.{ℕ, Bool, ◌&&◌, nat_eq, nat_lt, List, flat_map}
use Rattle.std.specs.List.{list_any}
use Rattle.gltf_json_scene.specs.declared.scene.Node.{Node}
use Rattle.gltf_json_scene.specs.declared.scene.Scene.{Scene}
use Rattle.gltf_json_scene.specs.declared.skin.Skin.{Skin}

-- a node, of so many, that is one of these
abbrev pub is_named : ℕ → List ℕ → ℕ → Bool
is_named count named k = nat_lt k count && list_any (nat_eq k) named

abbrev pub children_of : Node → List ℕ
children_of n = n.children.items

abbrev pub roots_of : Scene → List ℕ
roots_of s = s.nodes.items

abbrev pub joints_of : Skin → List ℕ
joints_of s = s.joints.items

-- all that the elements of a list name
abbrev pub all_named : {T : Type 0} → (T → List ℕ) → List T → List ℕ
all_named named xs = flat_map named xs
