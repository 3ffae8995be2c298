use Rattle.gltf_read.specs.Primitives.{closure_of}
use Rattle.gltf_read.specs.Colors.{AreColors}
use Rattle.gltf_read.proofs.Members.{of_member}
use Rattle.gltf_read.proofs.mesh.Reader.read_colors.Goals as goal

pub returns : goal.returns
returns g c =
    of_member AreColors (λ b o. goal.F-post g (closure_of c.args.self.now) b o) _ _
    c.in_ok-get.field-0 c.colors.result c.in_ok-get.ensures c.colors.ensures
