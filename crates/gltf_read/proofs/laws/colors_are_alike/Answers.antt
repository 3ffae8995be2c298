use Rattle.gltf_read.proofs.AlikeReadings.{colors_alike}
use Rattle.gltf_read.proofs.laws.colors_are_alike.Goals as goal

pub returns : goal.returns
returns c =
    colors_alike
    c.alike_documents_are_read_alike.ensures
    c.alike_documents_are_read_alike-2.ensures
    c.alike_documents_are_read_alike-3.ensures
    c.alike_documents_are_read_alike-4.ensures
    c.alike_documents_are_read_alike-5.ensures
    c.alike_documents_are_read_alike-6.ensures
