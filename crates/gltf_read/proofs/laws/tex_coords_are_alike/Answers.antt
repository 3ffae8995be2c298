use Rattle.gltf_read.proofs.AlikeReadings.{tex_coords_alike}
use Rattle.gltf_read.proofs.laws.tex_coords_are_alike.Goals as goal

pub returns : goal.returns
returns c =
    tex_coords_alike
    c.alike_documents_are_read_alike.ensures
    c.alike_documents_are_read_alike-2.ensures
    c.alike_documents_are_read_alike-3.ensures
