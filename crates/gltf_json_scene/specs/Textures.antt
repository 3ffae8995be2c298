-- Samplers and textures, row by row (glTF 2.0, sections 5.26 and 5.29).
use Rattle.std.specs.Prelude.{codes}
use Rattle.gltf_json_record.specs.Kind.{Kind}
use Rattle.gltf_json_record.specs.Scalars.{text, index, any, code}
use Rattle.gltf_json_record.specs.Table.{required, optional, defaulted, ◌&◌, table}
use Rattle.gltf_json_record.specs.Extensions.{others_only}
use Rattle.gltf_json_record.specs.declared.validation.Checked.TheVariants.{Valid}
use Rattle.gltf_json_scene.specs.Codes.{mag_filter, min_filter, wrapping_mode}
use Rattle.gltf_json_scene.specs.declared.texture.Sampler.{Sampler}
use Rattle.gltf_json_scene.specs.declared.texture.Texture.{Texture}
use Rattle.gltf_json_scene.specs.declared.texture.WrappingMode.TheVariants.{Repeat}

unfoldable pub sampler : Kind Sampler
sampler = table
    (optional (codes "magFilter") (λ r. r.mag_filter) (code mag_filter)
    & optional (codes "minFilter") (λ r. r.min_filter) (code min_filter)
    & defaulted (codes "wrapS") (λ r. r.wrap_s) (Valid Repeat) (code wrapping_mode)
    & defaulted (codes "wrapT") (λ r. r.wrap_t) (Valid Repeat) (code wrapping_mode)
    & optional (codes "name") (λ r. r.name) text
    & optional (codes "extensions") (λ r. r.extensions) others_only
    & optional (codes "extras") (λ r. r.extras) any)

unfoldable pub texture : Kind Texture
texture = table
    (optional (codes "sampler") (λ r. r.sampler) index
    & required (codes "source") (λ r. r.source) index
    & optional (codes "name") (λ r. r.name) text
    & optional (codes "extensions") (λ r. r.extensions) others_only
    & optional (codes "extras") (λ r. r.extras) any)
