use Rattle.gltf_instancing.specs.Instances.{AreRotations}
use Rattle.gltf_instancing.proofs.Members.{of_member}
use Rattle.gltf_instancing.proofs.reader.read_rotations.Goals as goal

pub returns : goal.returns
returns g c =
    of_member AreRotations (λ b o. goal.F-post g c.args.get_buffer_data.now b o) _ _
    c.in_ok-accessor.accessor c.rotations.result c.in_ok-accessor.ensures c.rotations.ensures
