use Rattle.gltf_walk.proofs.Reaching.{each_once}
use Rattle.gltf_walk.proofs.laws.each_once.Goals as goal

pub returns : goal.returns
returns c children roots steps walk = each_once children roots steps walk
