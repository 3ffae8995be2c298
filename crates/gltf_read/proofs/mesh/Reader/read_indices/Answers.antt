use Rattle.gltf_read.specs.Primitives.{closure_of}
use Rattle.gltf_read.specs.Indices.{AreIndices}
use Rattle.gltf_read.proofs.Members.{of_member}
use Rattle.gltf_read.proofs.mesh.Reader.read_indices.Goals as goal

pub returns : goal.returns
returns g c =
    of_member AreIndices (λ b o. goal.F-post g (closure_of c.args.self.now) b o) _ _
    c.in_ok-indices.field-0 c.indices-2.result c.in_ok-indices.ensures c.indices-2.ensures
