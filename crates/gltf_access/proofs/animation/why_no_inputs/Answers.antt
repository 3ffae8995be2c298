use Rattle.std.proofs.Common.{refl}
use Rattle.gltf_anim.specs.Animations.{animation_handle}
use Rattle.gltf_read.specs.Kinds.{times}
use Rattle.gltf_access.proofs.Explained.{time_size}
use Rattle.gltf_access.proofs.Members.{of_sampler, explained_items}
use Rattle.gltf_access.proofs.animation.why_no_inputs.Goals as goal

pub returns-clause-why : goal.returns-clause-why
returns-clause-why g c =
    of_sampler (λ s. s.input) times
    (λ b o. goal.F-post g c.args.get_buffer_data.now b o)
    (animation_handle c.args.channel.now.animation) c.args.channel.now.json.now c.sampler.result
    c.input.result c.times.result c.sampler.ensures c.input.ensures c.times.ensures

pub returns-clause-exact : goal.returns-clause-exact
returns-clause-exact g c =
    explained_items _ 4 times (λ b o. goal.F-post g c.args.get_buffer_data.now b o) _ _ _ refl
    time_size
    (of_sampler (λ s. s.input) times
    (λ b o. goal.F-post g c.args.get_buffer_data.now b o)
    (animation_handle c.args.channel.now.animation) c.args.channel.now.json.now c.sampler.result
    c.input.result c.times.result c.sampler.ensures c.input.ensures c.times.ensures)
