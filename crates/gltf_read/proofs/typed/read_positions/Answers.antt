use Rattle.gltf_read.specs.Kinds.{OfKind, three_floats}
use Rattle.gltf_read.specs.Reading.{AreItems}
use Rattle.gltf_read.proofs.Members.{of_member}
use Rattle.gltf_read.proofs.typed.read_positions.Goals as goal

pub returns : goal.returns
returns g c =
    of_member (OfKind three_floats AreItems)
    (λ b o. goal.F-post g c.args.get_buffer_data.now b o) _ _
    c.in_ok-get.field-0 c.vectors.result c.in_ok-get.ensures c.vectors.ensures
