use Rattle.gltf_read.proofs.AlikeReadings.{weights_alike}
use Rattle.gltf_read.proofs.laws.weights_are_alike.Goals as goal

pub returns : goal.returns
returns c =
    weights_alike
    c.alike_documents_are_read_alike.ensures
    c.alike_documents_are_read_alike-2.ensures
    c.alike_documents_are_read_alike-3.ensures
