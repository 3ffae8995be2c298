use Rattle.gltf_mended.specs.Left.{get_mended}
use Rattle.gltf_mended.proofs.laws.members_are_left.Goals as goal

pub returns : goal.returns
returns c = get_mended
