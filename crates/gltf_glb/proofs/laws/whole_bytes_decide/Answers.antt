use Rattle.gltf_glb.proofs.ReaderLaws.{decided_whole}
use Rattle.gltf_glb.proofs.laws.whole_bytes_decide.Goals as goal

pub returns : goal.returns
returns c = decided_whole
