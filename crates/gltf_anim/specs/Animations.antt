-- Handles of animations, and of what stands in them.
use Rattle.std.specs.Prelude.{◌≡◌, ℕ, List, Some, slice_get}
use Rattle.gltf_json.specs.declared.root.Root.{Root}
use Rattle.gltf_json_animation.specs.declared.animation.Animation.{Animation as AnimationRecord}
use Rattle.gltf_json_animation.specs.declared.animation.Channel.{Channel as ChannelRecord}
use Rattle.gltf_json_animation.specs.declared.animation.Sampler.{Sampler as SamplerRecord}
use Rattle.gltf_json_animation.specs.declared.animation.Target.{Target as TargetRecord}
use Rattle.gltf_rules.specs.declared.records.Records.{Ghosts}
use Rattle.gltf_handles.specs.Handle.{Handle, IsAt}
use Rattle.gltf_handles.specs.Inner.{handle_at}
use Rattle.gltf_anim.specs.declared.animation.Animation.{Animation}
use Rattle.gltf_anim.specs.declared.animation.Channel.{Channel}
use Rattle.gltf_anim.specs.declared.animation.Sampler.{Sampler}
use Rattle.gltf_anim.specs.declared.animation.Target.{Target}

-- a handle of a record in a list of an animation: the animation, the index and the record
pub record Part (R : Type 0) : Type 0 where
  pub animation : Handle AnimationRecord
  pub index : ℕ
  pub json : R

-- it is that of the record at index i of the list, in the animation a
pub record IsPart {R : Type 0} (list : List R) (a : Handle AnimationRecord) (i : ℕ)
    (h : Part R) : Type 0 where
  pub animation : h.animation ≡ a
  pub index : h.index ≡ i
  pub json : slice_get list i ≡ Some h.json

-- a handle of what a channel animates: the animation and the record
pub record Aim : Type 0 where
  pub animation : Handle AnimationRecord
  pub json : TargetRecord

-- it is that of the record x, in the animation a
pub record IsAim (a : Handle AnimationRecord) (x : TargetRecord) (h : Aim) : Type 0 where
  pub animation : h.animation ≡ a
  pub json : h.json ≡ x

module _ {D : Type 0} {G : Ghosts D} where
  -- what they show
  abbrev pub animation_handle : Animation D G → Handle AnimationRecord
  animation_handle a = handle_at a.inner a.index

  abbrev pub channel_handle : Channel D G → Part ChannelRecord
  channel_handle c = record {
    animation = animation_handle c.animation;
    index = c.index;
    json = c.json.now;
  }

  abbrev pub sampler_handle : Sampler D G → Part SamplerRecord
  sampler_handle s = record {
    animation = animation_handle s.animation;
    index = s.index;
    json = s.json.now;
  }

  abbrev pub target_handle : Target D G → Aim
  target_handle t = record { animation = animation_handle t.animation; json = t.json.now }

  -- the handle of animation i of a document
  abbrev pub IsAnimation : Root → ℕ → Animation D G → Type 0
  IsAnimation r i a = IsAt r.animations.items r i (animation_handle a)

  -- the handles of channel i and of sampler i of an animation
  abbrev pub IsChannel : Handle AnimationRecord → ℕ → Channel D G → Type 0
  IsChannel a i c = IsPart a.json.channels.items a i (channel_handle c)

  abbrev pub IsSampler : Handle AnimationRecord → ℕ → Sampler D G → Type 0
  IsSampler a i s = IsPart a.json.samplers.items a i (sampler_handle s)

  -- the handle of what a channel animates, by its record
  abbrev pub IsTarget : Handle AnimationRecord → TargetRecord → Target D G → Type 0
  IsTarget a x t = IsAim a x (target_handle t)
