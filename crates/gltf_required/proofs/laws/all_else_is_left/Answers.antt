use Rattle.gltf_required.specs.Left.{others_are}
use Rattle.gltf_required.proofs.laws.all_else_is_left.Goals as goal

pub returns : goal.returns
returns c = others_are
