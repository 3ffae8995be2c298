use Rattle.gltf_walk.proofs.Reaching.{one_walk}
use Rattle.gltf_walk.proofs.laws.one_walk.Goals as goal

pub returns : goal.returns
returns c children roots steps others walk other = one_walk children walk other
