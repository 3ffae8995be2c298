-- What the reader of a channel reads (glTF 2.0, section 3.11, "Animations").
use Rattle.std.specs.Prelude.{ℕ, Option, slice_get}
use Rattle.std.specs.Option.{option_map}
use Rattle.gltf_json_animation.specs.declared.animation.Animation.{Animation as AnimationRecord}
use Rattle.gltf_json_animation.specs.declared.animation.Channel.{Channel as ChannelRecord}
use Rattle.gltf_json_animation.specs.declared.animation.Property.{Property}
use Rattle.gltf_json_animation.specs.declared.animation.Sampler.{Sampler as SamplerRecord}
use Rattle.gltf_anim.specs.Animations.{Part, channel_handle}
use Rattle.gltf_read.specs.Reading.{meant}
use Rattle.gltf_read.specs.declared.animation.Reader.{Reader}

-- the channel
abbrev pub channel_of : {F : Type 0} → Reader F → Part ChannelRecord
channel_of reader = channel_handle reader.channel

-- the closure that gives the bytes of buffers
abbrev pub closure_of : {F : Type 0} → Reader F → F
closure_of reader = reader.get_buffer_data.now

-- what a channel of an animation animates; a valid document has no code that is in no table
abbrev pub property_of : ChannelRecord → Option Property
property_of c = meant (λ property. property) c.target.path

-- the sampler that it names, of the same animation
abbrev pub sampler_of : AnimationRecord → ChannelRecord → Option SamplerRecord
sampler_of a c = slice_get a.samplers.items c.sampler

-- the indices that this has for the times and for the values of keyframes
abbrev pub input_of : AnimationRecord → ChannelRecord → Option ℕ
input_of a c = option_map (λ s. s.input) (sampler_of a c)

abbrev pub output_of : AnimationRecord → ChannelRecord → Option ℕ
output_of a c = option_map (λ s. s.output) (sampler_of a c)
