-- Cameras, row by row (glTF 2.0, sections 5.12 to 5.14).
use Rattle.std.specs.Prelude.{codes}
use Rattle.gltf_json_record.specs.Kind.{Kind}
use Rattle.gltf_json_record.specs.Scalars.{text, any, code}
use Rattle.gltf_json_record.specs.Table.{required, optional, ◌&◌, table}
use Rattle.gltf_json_record.specs.Extensions.{others_only}
use Rattle.gltf_json_scene.specs.Codes.{camera_type}
use Rattle.gltf_json_scene.specs.declared.camera.Camera.{Camera}
use Rattle.gltf_json_scene.specs.declared.camera.Orthographic.{Orthographic}
use Rattle.gltf_json_scene.specs.declared.camera.Perspective.{Perspective}

unfoldable pub orthographic : Kind Orthographic
orthographic = table
    (optional (codes "xmag") (λ r. r.xmag) any
    & optional (codes "ymag") (λ r. r.ymag) any
    & optional (codes "zfar") (λ r. r.zfar) any
    & optional (codes "znear") (λ r. r.znear) any
    & optional (codes "extensions") (λ r. r.extensions) others_only
    & optional (codes "extras") (λ r. r.extras) any)

unfoldable pub perspective : Kind Perspective
perspective = table
    (optional (codes "aspectRatio") (λ r. r.aspect_ratio) any
    & optional (codes "yfov") (λ r. r.yfov) any
    & optional (codes "zfar") (λ r. r.zfar) any
    & optional (codes "znear") (λ r. r.znear) any
    & optional (codes "extensions") (λ r. r.extensions) others_only
    & optional (codes "extras") (λ r. r.extras) any)

unfoldable pub camera : Kind Camera
camera = table
    (required (codes "type") (λ r. r.type_) (code camera_type)
    & optional (codes "orthographic") (λ r. r.orthographic) orthographic
    & optional (codes "perspective") (λ r. r.perspective) perspective
    & optional (codes "name") (λ r. r.name) text
    & optional (codes "extensions") (λ r. r.extensions) others_only
    & optional (codes "extras") (λ r. r.extras) any)
