use Rattle.gltf_split.proofs.Linked.{has_linked_files}
use Rattle.gltf_split.proofs.laws.images_with_uris_have_files.Goals as goal

pub returns : goal.returns
returns c = has_linked_files
