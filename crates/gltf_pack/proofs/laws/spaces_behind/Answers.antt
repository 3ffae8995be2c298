use Rattle.gltf_pack.proofs.Spaces.{spaces_behind}
use Rattle.gltf_pack.proofs.laws.spaces_behind.Goals as goal

pub returns : goal.returns
returns c = spaces_behind
