use Rattle.gltf_glb.proofs.Again.{filled_once}
use Rattle.gltf_glb.proofs.laws.filled_once.Goals as goal

pub returns : goal.returns
returns c = filled_once
