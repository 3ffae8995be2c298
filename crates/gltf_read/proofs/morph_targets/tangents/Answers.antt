use Rattle.gltf_read.specs.Reading.{AreItems}
use Rattle.gltf_read.proofs.Members.{of_member}
use Rattle.gltf_read.proofs.morph_targets.tangents.Goals as goal

pub returns : goal.returns
returns g c =
    of_member AreItems (λ b o. goal.F-post g c.args.get_buffer_data.now b o) _ _
    c.in_ok-tangents.field-0 c.items.result c.in_ok-tangents.ensures c.items.ensures
