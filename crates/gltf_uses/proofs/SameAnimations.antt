-- The rules of animations, where none of their uses is of element i of a list: they are the same
-- whether the list ends before that element or after it.
use Rattle.std.proofs.Common.{◌≡◌, ℕ, ◌+◌, refl}
use Rattle.std.specs.Prelude.{codes}
use Rattle.gltf_json_animation.specs.declared.animation.Animation.{Animation}
use Rattle.gltf_json_animation.specs.declared.animation.Channel.{Channel}
use Rattle.gltf_json_animation.specs.declared.animation.Sampler.{Sampler}
use Rattle.gltf_json_animation.specs.declared.animation.Target.{Target}
use Rattle.gltf_validation.specs.Animations.{animation_rules, animation_sampler_rules}
use Rattle.gltf_validation.specs.Animations.{channel_rules, target_rules, within_animation}
use Rattle.gltf_validation.specs.declared.counts.Counts.{Counts}
use Rattle.gltf_uses.specs.Animations.{animation_uses, animation_sampler_uses, channel_uses}
use Rattle.gltf_uses.specs.Animations.{target_uses}
use Rattle.gltf_uses.specs.declared.kind.Kind.{Kind}
use Rattle.gltf_uses.specs.declared.kind.Kind.TheVariants as list
use Rattle.gltf_uses.specs.Lengths.{with_length}
use Rattle.gltf_uses.proofs.Free.{Free, at, both, list_same, one_index}

module _ (kind : Kind) (i : ℕ) (c : Counts) where
  abbrev before : Counts
  before = with_length kind i c

  abbrev after : Counts
  after = with_length kind (i + 1) c

  target_same : (r : Target) → Free kind i (target_uses r)
      → target_rules before r ≡ target_rules after r
  target_same r free =
      both (at (codes "node") (one_index kind i list.Node c.nodes r.node free)) refl

  channel_same : (r : Channel) → Free kind i (channel_uses r)
      → channel_rules before r ≡ channel_rules after r
  channel_same r free = both refl (at (codes "target") (target_same r.target free))

  animation_sampler_same : (r : Sampler) → Free kind i (animation_sampler_uses r)
      → animation_sampler_rules before r ≡ animation_sampler_rules after r
  animation_sampler_same r free =
      both
      (at (codes "input") (one_index kind i list.Accessor c.accessors r.input free.0))
      (both refl
      (at (codes "output") (one_index kind i list.Accessor c.accessors r.output free.1)))

pub animation_same : (kind : Kind) (i : ℕ) (c : Counts) (r : Animation)
    → Free kind i (animation_uses r)
    → animation_rules (with_length kind i c) r ≡ animation_rules (with_length kind (i + 1) c) r
animation_same kind i c r free =
    let inner : Counts = within_animation c r in
    both
    (at (codes "channels") (list_same kind i
    (channel_rules (with_length kind i inner)) (channel_rules (with_length kind (i + 1) inner))
    channel_uses (channel_same kind i inner) r.channels.items free.0))
    (at (codes "samplers") (list_same kind i
    (animation_sampler_rules (with_length kind i inner))
    (animation_sampler_rules (with_length kind (i + 1) inner))
    animation_sampler_uses (animation_sampler_same kind i inner) r.samplers.items free.1))
