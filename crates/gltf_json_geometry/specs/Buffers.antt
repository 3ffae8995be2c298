-- Buffers and their views, row by row (glTF 2.0, sections 5.10 and 5.11).
use Rattle.std.specs.Prelude.{codes}
use Rattle.gltf_json_record.specs.Kind.{Kind}
use Rattle.gltf_json_record.specs.Scalars.{text, size, index, any, code}
use Rattle.gltf_json_record.specs.Table.{required, optional, ◌&◌, table}
use Rattle.gltf_json_record.specs.Extensions.{others_only}
use Rattle.gltf_json_geometry.specs.Codes.{view_target}
use Rattle.gltf_json_geometry.specs.declared.buffer.Buffer.{Buffer}
use Rattle.gltf_json_geometry.specs.declared.buffer.View.{View}

unfoldable pub buffer : Kind Buffer
buffer = table
    (required (codes "byteLength") (λ r. r.byte_length) size
    & optional (codes "uri") (λ r. r.uri) text
    & optional (codes "name") (λ r. r.name) text
    & optional (codes "extensions") (λ r. r.extensions) others_only
    & optional (codes "extras") (λ r. r.extras) any)

unfoldable pub buffer_view : Kind View
buffer_view = table
    (required (codes "buffer") (λ r. r.buffer) index
    & required (codes "byteLength") (λ r. r.byte_length) size
    & optional (codes "byteOffset") (λ r. r.byte_offset) size
    & optional (codes "byteStride") (λ r. r.byte_stride) size
    & optional (codes "target") (λ r. r.target) (code view_target)
    & optional (codes "name") (λ r. r.name) text
    & optional (codes "extensions") (λ r. r.extensions) others_only
    & optional (codes "extras") (λ r. r.extras) any)
