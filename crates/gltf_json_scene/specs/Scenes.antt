-- Nodes and scenes, row by row (glTF 2.0, sections 5.25 and 5.27).
use Rattle.std.specs.Prelude.{[], ◌∷◌, codes}
use Rattle.gltf_json_record.specs.Kind.{Kind}
use Rattle.gltf_json_record.specs.Scalars.{text, index, any}
use Rattle.gltf_json_record.specs.Table.{optional, listed, others, ◌&◌, table}
use Rattle.gltf_json_record.specs.Extensions.{others_only}
use Rattle.gltf_json_scene.specs.Lights.{node_light}
use Rattle.gltf_json_scene.specs.declared.extensions.scene.Node as extensions
use Rattle.gltf_json_scene.specs.declared.scene.Node.{Node}
use Rattle.gltf_json_scene.specs.declared.scene.Scene.{Scene}

-- the member extensions of a node
unfoldable pub node_extensions : Kind extensions.Node
node_extensions = table
    (optional (codes "KHR_lights_punctual") (λ r. r.khr_lights_punctual) node_light
    & others (codes "KHR_lights_punctual" ∷ []) (λ r. r.others))

unfoldable pub node : Kind Node
node = table
    (optional (codes "camera") (λ r. r.camera) index
    & listed (codes "children") (λ r. r.children) index
    & optional (codes "mesh") (λ r. r.mesh) index
    & optional (codes "skin") (λ r. r.skin) index
    & optional (codes "matrix") (λ r. r.matrix) any
    & optional (codes "translation") (λ r. r.translation) any
    & optional (codes "rotation") (λ r. r.rotation) any
    & optional (codes "scale") (λ r. r.scale) any
    & optional (codes "weights") (λ r. r.weights) any
    & optional (codes "name") (λ r. r.name) text
    & optional (codes "extensions") (λ r. r.extensions) node_extensions
    & optional (codes "extras") (λ r. r.extras) any)

unfoldable pub scene : Kind Scene
scene = table
    (listed (codes "nodes") (λ r. r.nodes) index
    & optional (codes "name") (λ r. r.name) text
    & optional (codes "extensions") (λ r. r.extensions) others_only
    & optional (codes "extras") (λ r. r.extras) any)
