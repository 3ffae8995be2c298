-- The rules of nodes and scenes (glTF 2.0, section 3.5), in the order of their members.
use Rattle.std.specs.Prelude.{codes}
use Rattle.gltf_json_scene.specs.declared.extensions.scene.Node as extended
use Rattle.gltf_json_scene.specs.declared.scene.Node.{Node}
use Rattle.gltf_json_scene.specs.declared.scene.Scene.{Scene}
use Rattle.gltf_validation.specs.declared.counts.Counts.{Counts}
use Rattle.gltf_validation.specs.Rules.{Rules, ◌&◌}
use Rattle.gltf_validation.specs.Members.{member, index_rules, list_rules, optional_rules}
use Rattle.gltf_validation.specs.Lights.{node_light_rules}

abbrev pub node_extensions_rules : Counts → extended.Node → Rules
node_extensions_rules c r =
    member (codes "KHR_lights_punctual") (optional_rules (node_light_rules c) r.khr_lights_punctual)

abbrev pub node_rules : Counts → Node → Rules
node_rules c r =
    member (codes "camera") (optional_rules (index_rules c.cameras) r.camera)
    & member (codes "children") (list_rules (index_rules c.nodes) r.children.items)
    & member (codes "mesh") (optional_rules (index_rules c.meshes) r.mesh)
    & member (codes "skin") (optional_rules (index_rules c.skins) r.skin)
    & member (codes "extensions") (optional_rules (node_extensions_rules c) r.extensions)

abbrev pub scene_rules : Counts → Scene → Rules
scene_rules c r =
    member (codes "nodes") (list_rules (index_rules c.nodes) r.nodes.items)
