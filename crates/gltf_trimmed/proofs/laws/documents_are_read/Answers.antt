use Rattle.gltf_trimmed.proofs.Left.{read_trimmed}
use Rattle.gltf_trimmed.proofs.laws.documents_are_read.Goals as goal

pub returns : goal.returns
returns c = read_trimmed
