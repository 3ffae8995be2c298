-- The lights of a document, and the light at a node, row by row (KHR_lights_punctual).
use Rattle.std.specs.Prelude.{codes}
use Rattle.gltf_json_record.specs.Kind.{Kind}
use Rattle.gltf_json_record.specs.Scalars.{text, index, any, code}
use Rattle.gltf_json_record.specs.Table.{required, optional, ◌&◌, table}
use Rattle.gltf_json_scene.specs.Codes.{light_type}
use Rattle.gltf_json_scene.specs.declared.extensions.scene.KhrLightsPunctual.{KhrLightsPunctual}
use Rattle.gltf_json_scene.specs.declared.extensions.scene.khr_lights_punctual.Light.{Light}
use Rattle.gltf_json_scene.specs.declared.extensions.scene.khr_lights_punctual.Spot.{Spot}

unfoldable pub spot : Kind Spot
spot = table
    (optional (codes "innerConeAngle") (λ r. r.inner_cone_angle) any
    & optional (codes "outerConeAngle") (λ r. r.outer_cone_angle) any)

unfoldable pub light : Kind Light
light = table
    (optional (codes "color") (λ r. r.color) any
    & optional (codes "intensity") (λ r. r.intensity) any
    & optional (codes "range") (λ r. r.range) any
    & required (codes "type") (λ r. r.type_) (code light_type)
    & optional (codes "spot") (λ r. r.spot) spot
    & optional (codes "name") (λ r. r.name) text
    & optional (codes "extras") (λ r. r.extras) any)

-- the member KHR_lights_punctual of a node's extensions
unfoldable pub node_light : Kind KhrLightsPunctual
node_light = table
    (required (codes "light") (λ r. r.light) index)
