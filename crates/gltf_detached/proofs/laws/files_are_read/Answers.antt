use Rattle.gltf_detached.proofs.Files.{reads_files}
use Rattle.gltf_detached.proofs.laws.files_are_read.Goals as goal

pub returns : goal.returns
returns c = reads_files c.uris_lead_to_names.ensures
