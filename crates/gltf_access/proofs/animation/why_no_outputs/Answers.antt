use Rattle.gltf_anim.specs.Animations.{animation_handle}
use Rattle.gltf_read.specs.Channels.{property_of}
use Rattle.gltf_access.proofs.Members.{of_output, explained_outputs}
use Rattle.gltf_access.proofs.animation.why_no_outputs.Goals as goal

pub returns-clause-why : goal.returns-clause-why
returns-clause-why g c =
    of_output (λ b o. goal.F-post g c.args.get_buffer_data.now b o)
    (animation_handle c.args.channel.now.animation) c.args.channel.now.json.now
    c.target.result c.property-property.result c.sampler.result c.output.result c.outputs.result
    c.target.ensures c.property-property.ensures c.sampler.ensures c.output.ensures
    c.outputs.ensures

pub returns-clause-exact : goal.returns-clause-exact
returns-clause-exact g c =
    explained_outputs (property_of c.args.channel.now.json.now)
    (λ b o. goal.F-post g c.args.get_buffer_data.now b o) _ _ _
    (of_output (λ b o. goal.F-post g c.args.get_buffer_data.now b o)
    (animation_handle c.args.channel.now.animation) c.args.channel.now.json.now
    c.target.result c.property-property.result c.sampler.result c.output.result c.outputs.result
    c.target.ensures c.property-property.ensures c.sampler.ensures c.output.ensures
    c.outputs.ensures)
