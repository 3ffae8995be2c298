-- Animations and their channels, as C sees them (glTF 2.0, section 3.11).
use Rattle.std.specs.Prelude.{ℕ, [], ◌∷◌, length, slice_get, Option, option_map}
use Rattle.std.specs.Option.{option_and_then}
use Rattle.gltf_json.specs.declared.root.Root.{Root}
use Rattle.gltf_json_animation.specs.declared.animation.Animation.{Animation}
use Rattle.gltf_json_animation.specs.declared.animation.Channel.{Channel}
use Rattle.gltf_json_animation.specs.declared.animation.Interpolation.{Interpolation}
use Rattle.gltf_json_animation.specs.declared.animation.Interpolation.TheVariants.{Linear, Step}
use Rattle.gltf_json_animation.specs.declared.animation.Interpolation.TheVariants.{CubicSpline}
use Rattle.gltf_json_animation.specs.declared.animation.Property.{Property}
use Rattle.gltf_json_animation.specs.declared.animation.Property.TheVariants.{Translation, Rotation}
use Rattle.gltf_json_animation.specs.declared.animation.Property.TheVariants.{Scale}
use Rattle.gltf_json_animation.specs.declared.animation.Property.TheVariants.{MorphTargetWeights}
use Rattle.gltf_json_animation.specs.declared.animation.Sampler.{Sampler}
use Rattle.gltf_handles.specs.Sizes.{code_of}
use Rattle.gltf_c_scene.specs.declared.animation.GltfAnimation.{GltfAnimation}
use Rattle.gltf_c_scene.specs.declared.animation.GltfChannel.{GltfChannel}

-- what C sees of an animation (section 5.5)
abbrev pub shown_animation : Animation → GltfAnimation
shown_animation a = record {
  channels = length a.channels.items;
  samplers = length a.samplers.items;
  reserved = 0 ∷ 0 ∷ [];
}

abbrev pub shown_animation_of : ℕ → Root → Option GltfAnimation
shown_animation_of index r = option_map shown_animation (slice_get r.animations.items index)

-- the number of a path (section 5.7.2)
abbrev pub path_number : Property → ℕ
path_number Translation = 0
path_number Rotation = 1
path_number Scale = 2
path_number MorphTargetWeights = 3

-- the number of an interpolation (section 5.8.2)
abbrev pub interpolation_number : Interpolation → ℕ
interpolation_number Linear = 0
interpolation_number Step = 1
interpolation_number CubicSpline = 2

-- what C sees of a channel and its sampler (sections 5.6 to 5.8)
abbrev pub shown_channel : Channel → Sampler → GltfChannel
shown_channel c s = record {
  node = c.target.node;
  path = code_of path_number c.target.path;
  interpolation = code_of interpolation_number s.interpolation;
  sampler = c.sampler;
  input = s.input;
  output = s.output;
  reserved = 0 ∷ 0 ∷ [];
}

-- a channel of an animation, with the sampler of the same animation that it names
abbrev pub shown_channel_of : ℕ → ℕ → Root → Option GltfChannel
shown_channel_of animation index r =
    option_and_then (λ a.
    option_and_then (λ c.
    option_map (shown_channel c) (slice_get a.samplers.items c.sampler))
    (slice_get a.channels.items index))
    (slice_get r.animations.items animation)
