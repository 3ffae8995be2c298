-- Animations, row by row (glTF 2.0, sections 5.5 to 5.8).
use Rattle.std.specs.Prelude.{codes}
use Rattle.gltf_json_record.specs.Kind.{Kind}
use Rattle.gltf_json_record.specs.Lists.{list}
use Rattle.gltf_json_record.specs.Scalars.{text, index, any, code}
use Rattle.gltf_json_record.specs.Table.{required, optional, defaulted, ◌&◌, table}
use Rattle.gltf_json_record.specs.Extensions.{others_only}
use Rattle.gltf_json_record.specs.declared.validation.Checked.TheVariants.{Valid}
use Rattle.gltf_json_animation.specs.Codes.{interpolation, property}
use Rattle.gltf_json_animation.specs.declared.animation.Animation.{Animation}
use Rattle.gltf_json_animation.specs.declared.animation.Channel.{Channel}
use Rattle.gltf_json_animation.specs.declared.animation.Interpolation.TheVariants.{Linear}
use Rattle.gltf_json_animation.specs.declared.animation.Sampler.{Sampler}
use Rattle.gltf_json_animation.specs.declared.animation.Target.{Target}

unfoldable pub target : Kind Target
target = table
    (required (codes "node") (λ r. r.node) index
    & required (codes "path") (λ r. r.path) (code property)
    & optional (codes "extras") (λ r. r.extras) any)

unfoldable pub channel : Kind Channel
channel = table
    (required (codes "sampler") (λ r. r.sampler) index
    & required (codes "target") (λ r. r.target) target
    & optional (codes "extras") (λ r. r.extras) any)

unfoldable pub sampler : Kind Sampler
sampler = table
    (required (codes "input") (λ r. r.input) index
    & defaulted (codes "interpolation") (λ r. r.interpolation) (Valid Linear) (code interpolation)
    & required (codes "output") (λ r. r.output) index
    & optional (codes "extras") (λ r. r.extras) any)

unfoldable pub animation : Kind Animation
animation = table
    (required (codes "channels") (λ r. r.channels) (list channel)
    & required (codes "samplers") (λ r. r.samplers) (list sampler)
    & optional (codes "name") (λ r. r.name) text
    & optional (codes "extensions") (λ r. r.extensions) others_only
    & optional (codes "extras") (λ r. r.extras) any)
