use Rattle.gltf_anim.specs.Animations.{animation_handle}
use Rattle.gltf_read.specs.Channels.{closure_of}
use Rattle.gltf_read.proofs.Samplers.{outputs_read}
use Rattle.gltf_read.proofs.animation.Reader.read_outputs.Goals as goal

pub returns : goal.returns
returns g c =
    outputs_read (λ b o. goal.F-post g (closure_of c.args.self.now) b o)
    (animation_handle c.args.self.now.channel.animation) c.args.self.now.channel.json.now
    c.target.result c.property-property.result c.sampler.result c.output-output.result
    c.outputs.result c.target.ensures c.property-property.ensures c.sampler.ensures
    c.output-output.ensures c.outputs.ensures
