-- Images, row by row (glTF 2.0, section 5.18).
use Rattle.std.specs.Prelude.{codes}
use Rattle.gltf_json_record.specs.Kind.{Kind}
use Rattle.gltf_json_record.specs.Scalars.{text, index, any}
use Rattle.gltf_json_record.specs.Table.{optional, ◌&◌, table}
use Rattle.gltf_json_record.specs.Extensions.{others_only}
use Rattle.gltf_json_scene.specs.declared.image.Image.{Image}

unfoldable pub image : Kind Image
image = table
    (optional (codes "bufferView") (λ r. r.buffer_view) index
    & optional (codes "mimeType") (λ r. r.mime_type) text
    & optional (codes "uri") (λ r. r.uri) text
    & optional (codes "name") (λ r. r.name) text
    & optional (codes "extensions") (λ r. r.extensions) others_only
    & optional (codes "extras") (λ r. r.extras) any)
