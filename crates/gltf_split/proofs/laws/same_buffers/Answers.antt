use Rattle.gltf_split.proofs.Imported.{has_its_buffers}
use Rattle.gltf_split.proofs.laws.same_buffers.Goals as goal

pub returns : goal.returns
returns c =
    has_its_buffers c.buffers_are_named.ensures c.files_are_read.ensures
    c.documents_are_read.ensures
