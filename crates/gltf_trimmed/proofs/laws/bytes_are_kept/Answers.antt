use Rattle.gltf_trimmed.proofs.Kept.{bytes_kept}
use Rattle.gltf_trimmed.proofs.laws.bytes_are_kept.Goals as goal

pub returns : goal.returns
returns c = bytes_kept
