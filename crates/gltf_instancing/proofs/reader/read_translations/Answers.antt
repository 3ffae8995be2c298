use Rattle.gltf_instancing.specs.Instances.{AreVectors}
use Rattle.gltf_instancing.proofs.Members.{of_member}
use Rattle.gltf_instancing.proofs.reader.read_translations.Goals as goal

pub returns : goal.returns
returns g c =
    of_member AreVectors (λ b o. goal.F-post g c.args.get_buffer_data.now b o) _ _
    c.in_ok-accessor.accessor c.vectors.result c.in_ok-accessor.ensures c.vectors.ensures
