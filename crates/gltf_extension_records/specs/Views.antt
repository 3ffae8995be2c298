-- The extension EXT_meshopt_compression of a view, row by row.
use Rattle.std.specs.Prelude.{codes, [], ◌∷◌, Option}
use Rattle.serde_json.specs.Data.{Data}
use Rattle.gltf_json_record.specs.Kind.{Kind}
use Rattle.gltf_json_record.specs.Scalars.{size, index, code, word_codes}
use Rattle.gltf_json_record.specs.Table.{required, defaulted, ◌&◌, table}
use Rattle.gltf_json_record.specs.declared.validation.Checked.{Checked}
use Rattle.gltf_json_record.specs.declared.validation.Checked.TheVariants.{Valid}
use Rattle.gltf_extension_records.specs.declared.view.MeshoptMode as mode
use Rattle.gltf_extension_records.specs.declared.view.MeshoptFilter as filter
use Rattle.gltf_extension_records.specs.declared.view.MeshoptCompression.{MeshoptCompression}

-- the words of `mode`
abbrev pub meshopt_mode : Data → Option (Checked mode.MeshoptMode)
meshopt_mode = word_codes
    ((codes "ATTRIBUTES", mode.TheVariants.Attributes)
    ∷ (codes "TRIANGLES", mode.TheVariants.Triangles)
    ∷ (codes "INDICES", mode.TheVariants.Indices)
    ∷ [])

-- the words of `filter`
abbrev pub meshopt_filter : Data → Option (Checked filter.MeshoptFilter)
meshopt_filter = word_codes
    ((codes "NONE", filter.TheVariants.None)
    ∷ (codes "OCTAHEDRAL", filter.TheVariants.Octahedral)
    ∷ (codes "QUATERNION", filter.TheVariants.Quaternion)
    ∷ (codes "EXPONENTIAL", filter.TheVariants.Exponential)
    ∷ [])

unfoldable pub meshopt_compression : Kind MeshoptCompression
meshopt_compression = table
    (required (codes "buffer") (λ r. r.buffer) index
    & defaulted (codes "byteOffset") (λ r. r.byte_offset) 0 size
    & required (codes "byteLength") (λ r. r.byte_length) size
    & required (codes "byteStride") (λ r. r.byte_stride) size
    & required (codes "count") (λ r. r.count) size
    & required (codes "mode") (λ r. r.mode) (code meshopt_mode)
    & defaulted (codes "filter") (λ r. r.filter) (Valid filter.TheVariants.None)
    (code meshopt_filter))
