-- What a document says of itself, row by row (glTF 2.0, section 5.9).
use Rattle.std.specs.Prelude.{codes}
use Rattle.gltf_json_record.specs.Kind.{Kind}
use Rattle.gltf_json_record.specs.Scalars.{text, any}
use Rattle.gltf_json_record.specs.Table.{required, optional, ◌&◌, table}
use Rattle.gltf_json_record.specs.Extensions.{others_only}
use Rattle.gltf_json_scene.specs.declared.asset.Asset.{Asset}

unfoldable pub asset : Kind Asset
asset = table
    (required (codes "version") (λ r. r.version) text
    & optional (codes "generator") (λ r. r.generator) text
    & optional (codes "copyright") (λ r. r.copyright) text
    & optional (codes "minVersion") (λ r. r.min_version) text
    & optional (codes "extensions") (λ r. r.extensions) others_only
    & optional (codes "extras") (λ r. r.extras) any)
