use Rattle.gltf_anim.specs.Animations.{animation_handle}
use Rattle.gltf_read.specs.Channels.{closure_of}
use Rattle.gltf_read.specs.Reading.{AreItems}
use Rattle.gltf_read.proofs.Samplers.{sampler_read}
use Rattle.gltf_read.proofs.animation.Reader.read_inputs.Goals as goal

pub returns : goal.returns
returns g c =
    sampler_read (λ s. s.input) AreItems
    (λ b o. goal.F-post g (closure_of c.args.self.now) b o)
    (animation_handle c.args.self.now.channel.animation) c.args.self.now.channel.json.now
    c.sampler.result c.input.result c.items.result c.sampler.ensures c.input.ensures
    c.items.ensures
