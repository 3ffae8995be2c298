-- Animations that show the same have the same rules.
use Rattle.std.proofs.Common.{◌≡◌, ap, ◌∙◌}
use Rattle.std.specs.Prelude.{codes}
use Rattle.gltf_json_animation.specs.Animations.{animation, channel, sampler, target}
use Rattle.gltf_json_animation.specs.declared.animation.Target.{Target}
use Rattle.gltf_json_animation.specs.declared.animation.Channel.{Channel}
use Rattle.gltf_json_animation.specs.declared.animation.Sampler.{Sampler}
use Rattle.gltf_json_animation.specs.declared.animation.Animation.{Animation}
use Rattle.gltf_validation.specs.declared.counts.Counts.{Counts}
use Rattle.gltf_validation.specs.Members.{code_rules, index_rules, list_rules}
use Rattle.gltf_validation.specs.Animations.{animation_rules, animation_sampler_rules}
use Rattle.gltf_validation.specs.Animations.{channel_rules, target_rules, within_animation}
use Rattle.gltf_validation.proofs.Alike.{at, both, length_alike, list_alike}

pub target_rules-alike : (c : Counts) (x y : Target) → target.content x ≡ target.content y
    → target_rules c x ≡ target_rules c y
unfolding target
target_rules-alike c x y e =
    both (at (codes "node") (ap (index_rules c.nodes) (ap (λ s. s.0) e)))
    (at (codes "path") (ap code_rules (ap (λ s. s.1.0) e)))

pub channel_rules-alike : (c : Counts) (x y : Channel) → channel.content x ≡ channel.content y
    → channel_rules c x ≡ channel_rules c y
unfolding channel
channel_rules-alike c x y e =
    both (at (codes "sampler") (ap (index_rules c.animation_samplers) (ap (λ s. s.0) e)))
    (at (codes "target") (target_rules-alike c x.target y.target (ap (λ s. s.1.0) e)))

pub animation_sampler_rules-alike : (c : Counts) (x y : Sampler)
    → sampler.content x ≡ sampler.content y
    → animation_sampler_rules c x ≡ animation_sampler_rules c y
unfolding sampler
animation_sampler_rules-alike c x y e =
    both (at (codes "input") (ap (index_rules c.accessors) (ap (λ s. s.0) e)))
    (both (at (codes "interpolation") (ap code_rules (ap (λ s. s.1.0) e)))
    (at (codes "output") (ap (index_rules c.accessors) (ap (λ s. s.1.1.0) e))))

pub animation_rules-alike : (c : Counts) (x y : Animation)
    → animation.content x ≡ animation.content y → animation_rules c x ≡ animation_rules c y
unfolding animation
animation_rules-alike c x y e =
    let within : within_animation c x ≡ within_animation c y =
    ap (λ n. record c { animation_samplers = n })
    (length_alike sampler.content x.samplers.items y.samplers.items (ap (λ s. s.1.0) e)) in
    both (at (codes "channels") (ap (λ d. list_rules (channel_rules d) x.channels.items) within
    ∙ list_alike channel.content (channel_rules (within_animation c y))
    (channel_rules-alike (within_animation c y)) x.channels.items y.channels.items
    (ap (λ s. s.0) e)))
    (at (codes "samplers") (ap (λ d. list_rules (animation_sampler_rules d) x.samplers.items) within
    ∙ list_alike sampler.content (animation_sampler_rules (within_animation c y))
    (animation_sampler_rules-alike (within_animation c y)) x.samplers.items y.samplers.items
    (ap (λ s. s.1.0) e)))
