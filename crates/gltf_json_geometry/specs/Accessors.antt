-- Accessors, row by row (glTF 2.0, sections 5.1 to 5.4).
use Rattle.std.specs.Prelude.{codes, false}
use Rattle.gltf_json_record.specs.Kind.{Kind}
use Rattle.gltf_json_record.specs.Scalars.{text, flag, size, index, any, code}
use Rattle.gltf_json_record.specs.Table.{required, optional, defaulted, ◌&◌, table}
use Rattle.gltf_json_record.specs.Extensions.{others_only}
use Rattle.gltf_json_geometry.specs.Codes.{component_type, index_component_type, dimensions}
use Rattle.gltf_json_geometry.specs.declared.accessor.Accessor.{Accessor}
use Rattle.gltf_json_geometry.specs.declared.accessor.sparse.Indices.{Indices}
use Rattle.gltf_json_geometry.specs.declared.accessor.sparse.Values.{Values}
use Rattle.gltf_json_geometry.specs.declared.accessor.sparse.Sparse.{Sparse}

unfoldable pub indices : Kind Indices
indices = table
    (required (codes "bufferView") (λ r. r.buffer_view) index
    & defaulted (codes "byteOffset") (λ r. r.byte_offset) 0 size
    & required (codes "componentType") (λ r. r.component_type) (code index_component_type)
    & optional (codes "extras") (λ r. r.extras) any)

unfoldable pub values : Kind Values
values = table
    (required (codes "bufferView") (λ r. r.buffer_view) index
    & defaulted (codes "byteOffset") (λ r. r.byte_offset) 0 size
    & optional (codes "extras") (λ r. r.extras) any)

unfoldable pub sparse : Kind Sparse
sparse = table
    (required (codes "count") (λ r. r.count) size
    & required (codes "indices") (λ r. r.indices) indices
    & required (codes "values") (λ r. r.values) values
    & optional (codes "extras") (λ r. r.extras) any)

unfoldable pub accessor : Kind Accessor
accessor = table
    (optional (codes "bufferView") (λ r. r.buffer_view) index
    & optional (codes "byteOffset") (λ r. r.byte_offset) size
    & required (codes "componentType") (λ r. r.component_type) (code component_type)
    & defaulted (codes "normalized") (λ r. r.normalized) false flag
    & required (codes "count") (λ r. r.count) size
    & required (codes "type") (λ r. r.type_) (code dimensions)
    & optional (codes "max") (λ r. r.max) any
    & optional (codes "min") (λ r. r.min) any
    & optional (codes "sparse") (λ r. r.sparse) sparse
    & optional (codes "name") (λ r. r.name) text
    & optional (codes "extensions") (λ r. r.extensions) others_only
    & optional (codes "extras") (λ r. r.extras) any)
