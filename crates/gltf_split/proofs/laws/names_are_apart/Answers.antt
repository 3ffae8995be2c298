use Rattle.gltf_split.proofs.Apart.{names_apart}
use Rattle.gltf_split.proofs.laws.names_are_apart.Goals as goal

pub returns : goal.returns
returns c = names_apart
