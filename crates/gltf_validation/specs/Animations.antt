-- The rules of animations (glTF 2.0, section 3.11), in the order of their members.
use Rattle.std.specs.Prelude.{codes, length}
use Rattle.gltf_json_animation.specs.declared.animation.Target.{Target}
use Rattle.gltf_json_animation.specs.declared.animation.Channel.{Channel}
use Rattle.gltf_json_animation.specs.declared.animation.Sampler.{Sampler}
use Rattle.gltf_json_animation.specs.declared.animation.Animation.{Animation}
use Rattle.gltf_validation.specs.declared.counts.Counts.{Counts}
use Rattle.gltf_validation.specs.Rules.{Rules, ◌&◌}
use Rattle.gltf_validation.specs.Members.{member, code_rules, index_rules, list_rules}

abbrev pub target_rules : Counts → Target → Rules
target_rules c r =
    member (codes "node") (index_rules c.nodes r.node)
    & member (codes "path") (code_rules r.path)

abbrev pub channel_rules : Counts → Channel → Rules
channel_rules c r =
    member (codes "sampler") (index_rules c.animation_samplers r.sampler)
    & member (codes "target") (target_rules c r.target)

abbrev pub animation_sampler_rules : Counts → Sampler → Rules
animation_sampler_rules c r =
    member (codes "input") (index_rules c.accessors r.input)
    & member (codes "interpolation") (code_rules r.interpolation)
    & member (codes "output") (index_rules c.accessors r.output)

-- the samplers that the channels of an animation point into are its own
abbrev pub within_animation : Counts → Animation → Counts
within_animation c r = record c { animation_samplers = length r.samplers.items }

abbrev pub animation_rules : Counts → Animation → Rules
animation_rules c r =
    member (codes "channels") (list_rules (channel_rules (within_animation c r)) r.channels.items)
    & member (codes "samplers")
    (list_rules (animation_sampler_rules (within_animation c r)) r.samplers.items)
