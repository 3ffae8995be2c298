use Rattle.gltf_split.proofs.Imported.{accepted_over}
use Rattle.gltf_split.proofs.laws.text_is_accepted.Goals as goal

pub returns : goal.returns
returns c =
    accepted_over c.buffers_are_named.ensures c.uris_lead_to_names.ensures
    c.documents_are_read.ensures
