use Rattle.gltf_read.proofs.AlikeReadings.{outputs_alike}
use Rattle.gltf_read.proofs.laws.outputs_are_alike.Goals as goal

pub returns : goal.returns
returns c =
    outputs_alike
    c.alike_documents_are_read_alike.ensures
    c.alike_documents_are_read_alike-2.ensures
    c.alike_documents_are_read_alike-3.ensures
    c.alike_documents_are_read_alike-4.ensures
    c.alike_documents_are_read_alike-5.ensures
    c.alike_documents_are_read_alike-6.ensures
    c.alike_documents_are_read_alike-7.ensures
    c.alike_documents_are_read_alike-8.ensures
    c.alike_documents_are_read_alike-9.ensures
    c.alike_documents_are_read_alike-10.ensures
    c.alike_documents_are_read_alike-11.ensures
