use Rattle.gltf_read.proofs.AlikeReadings.{joints_alike}
use Rattle.gltf_read.proofs.laws.joints_are_alike.Goals as goal

pub returns : goal.returns
returns c =
    joints_alike
    c.alike_documents_are_read_alike.ensures
    c.alike_documents_are_read_alike-2.ensures
