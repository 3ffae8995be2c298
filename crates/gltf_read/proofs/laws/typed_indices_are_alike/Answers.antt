use Rattle.gltf_read.proofs.AlikeReadings.{typed_indices_alike}
use Rattle.gltf_read.proofs.laws.typed_indices_are_alike.Goals as goal

pub returns : goal.returns
returns c =
    typed_indices_alike
    c.alike_documents_are_read_alike.ensures
    c.alike_documents_are_read_alike-2.ensures
    c.alike_documents_are_read_alike-3.ensures
