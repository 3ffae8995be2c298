use Rattle.std.proofs.Common.{refl}
use Rattle.gltf_read.specs.Kinds.{three_floats}
use Rattle.gltf_access.proofs.Members.{of_member, of_none}
use Rattle.gltf_access.proofs.mesh.displacements.Goals as goal

pub returns-in-Some : goal.returns-in-Some
returns-in-Some g c = λ r index follows.
    of_member three_floats (λ b o. goal.F-post g c.args.get_buffer_data.now b o) r index
    c.in-Some.accessor _ (rw c.in-Some.is at follows) c.three_floats.ensures

pub returns-in-None : goal.returns-in-None
returns-in-None g c = λ r index follows.
    of_none three_floats (λ b o. goal.F-post g c.args.get_buffer_data.now b o) r index _
    (rw c.in-None.is at follows) refl
