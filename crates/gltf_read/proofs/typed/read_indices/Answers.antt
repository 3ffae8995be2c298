use Rattle.gltf_read.specs.Indices.{AreIndices}
use Rattle.gltf_read.specs.Kinds.{OfKind, indices}
use Rattle.gltf_read.proofs.Members.{of_member}
use Rattle.gltf_read.proofs.typed.read_indices.Goals as goal

pub returns : goal.returns
returns g c =
    of_member (OfKind indices AreIndices)
    (λ b o. goal.F-post g c.args.get_buffer_data.now b o) _ _
    c.in_ok-indices.field-0 c.scalars.result c.in_ok-indices.ensures c.scalars.ensures
