-- The indices in animations (glTF 2.0, section 3.11), in the order of their members. The samplers
-- that channels point into are those of their own animation, and no list of the document.
use Rattle.std.specs.Prelude.{codes}
use Rattle.gltf_json_animation.specs.declared.animation.Animation.{Animation}
use Rattle.gltf_json_animation.specs.declared.animation.Channel.{Channel}
use Rattle.gltf_json_animation.specs.declared.animation.Sampler.{Sampler}
use Rattle.gltf_json_animation.specs.declared.animation.Target.{Target}
use Rattle.gltf_uses.specs.declared.kind.Kind.TheVariants as list
use Rattle.gltf_uses.specs.Uses.{Uses, Use, ◌&◌, member, list_uses}

abbrev pub target_uses : Target → Uses
target_uses r = member (codes "node") (Use list.Node r.node)

abbrev pub channel_uses : Channel → Uses
channel_uses r = member (codes "target") (target_uses r.target)

abbrev pub animation_sampler_uses : Sampler → Uses
animation_sampler_uses r =
    member (codes "input") (Use list.Accessor r.input)
    & member (codes "output") (Use list.Accessor r.output)

abbrev pub animation_uses : Animation → Uses
animation_uses r =
    member (codes "channels") (list_uses channel_uses r.channels.items)
    & member (codes "samplers") (list_uses animation_sampler_uses r.samplers.items)
