-- Nodes and scenes that show the same have the same rules.
use Rattle.std.proofs.Common.{◌≡◌, ap, ℕ}
use Rattle.std.specs.Prelude.{codes}
use Rattle.gltf_json_scene.specs.Lights.{node_light}
use Rattle.gltf_json_scene.specs.Scenes.{node, node_extensions, scene}
use Rattle.gltf_json_scene.specs.declared.extensions.scene.Node as extended
use Rattle.gltf_json_scene.specs.declared.scene.Node.{Node}
use Rattle.gltf_json_scene.specs.declared.scene.Scene.{Scene}
use Rattle.gltf_validation.specs.declared.counts.Counts.{Counts}
use Rattle.gltf_validation.specs.Members.{index_rules}
use Rattle.gltf_validation.specs.Lights.{node_light_rules}
use Rattle.gltf_validation.specs.Scenes.{node_extensions_rules, node_rules, scene_rules}
use Rattle.gltf_validation.proofs.Alike.{at, both, list_alike, optional_alike}
use Rattle.gltf_validation.proofs.AlikeLights.{node_light_rules-alike}

pub node_extensions_rules-alike : (c : Counts) (x y : extended.Node)
    → node_extensions.content x ≡ node_extensions.content y
    → node_extensions_rules c x ≡ node_extensions_rules c y
unfolding node_extensions
node_extensions_rules-alike c x y e =
    at (codes "KHR_lights_punctual") (optional_alike node_light.content (node_light_rules c)
    (node_light_rules-alike c) x.khr_lights_punctual y.khr_lights_punctual (ap (λ s. s.0) e))

pub node_rules-alike : (c : Counts) (x y : Node) → node.content x ≡ node.content y
    → node_rules c x ≡ node_rules c y
unfolding node
node_rules-alike c x y e =
    both (at (codes "camera") (optional_alike (λ (n : ℕ). n) (index_rules c.cameras)
    (λ m n. ap (index_rules c.cameras)) x.camera y.camera (ap (λ s. s.0) e)))
    (both (at (codes "children") (list_alike (λ (n : ℕ). n) (index_rules c.nodes)
    (λ m n. ap (index_rules c.nodes)) x.children.items y.children.items (ap (λ s. s.1.0) e)))
    (both (at (codes "mesh") (optional_alike (λ (n : ℕ). n) (index_rules c.meshes)
    (λ m n. ap (index_rules c.meshes)) x.mesh y.mesh (ap (λ s. s.1.1.0) e)))
    (both (at (codes "skin") (optional_alike (λ (n : ℕ). n) (index_rules c.skins)
    (λ m n. ap (index_rules c.skins)) x.skin y.skin (ap (λ s. s.1.1.1.0) e)))
    (at (codes "extensions") (optional_alike node_extensions.content (node_extensions_rules c)
    (node_extensions_rules-alike c) x.extensions y.extensions
    (ap (λ s. s.1.1.1.1.1.1.1.1.1.1.0) e))))))

pub scene_rules-alike : (c : Counts) (x y : Scene) → scene.content x ≡ scene.content y
    → scene_rules c x ≡ scene_rules c y
unfolding scene
scene_rules-alike c x y e =
    at (codes "nodes") (list_alike (λ (n : ℕ). n) (index_rules c.nodes)
    (λ m n. ap (index_rules c.nodes)) x.nodes.items y.nodes.items (ap (λ s. s.0) e))
