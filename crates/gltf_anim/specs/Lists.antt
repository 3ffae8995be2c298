-- Lists of what stands in an animation: all channels and all samplers.
use Rattle.std.specs.Prelude.{◌≡◌, length}
use Rattle.gltf_json_animation.specs.declared.animation.Animation.{Animation as AnimationRecord}
use Rattle.gltf_rules.specs.declared.records.Records.{Ghosts}
use Rattle.gltf_handles.specs.Handle.{Handle}
use Rattle.gltf_handles.specs.Positions.{Position, IsWhole}
use Rattle.gltf_anim.specs.Animations.{animation_handle}
use Rattle.gltf_anim.specs.declared.animation.iter.ChannelsOf.{ChannelsOf}
use Rattle.gltf_anim.specs.declared.animation.iter.SamplersOf.{SamplersOf}

module _ {D : Type 0} {G : Ghosts D} where
  abbrev pub AreChannels : Handle AnimationRecord → Position (ChannelsOf D G) → Type 0
  AreChannels a p =
      IsWhole (λ s. animation_handle s.animation ≡ a) (length a.json.channels.items) p

  abbrev pub AreSamplers : Handle AnimationRecord → Position (SamplersOf D G) → Type 0
  AreSamplers a p =
      IsWhole (λ s. animation_handle s.animation ≡ a) (length a.json.samplers.items) p
