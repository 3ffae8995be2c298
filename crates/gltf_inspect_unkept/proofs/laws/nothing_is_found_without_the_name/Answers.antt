use Rattle.gltf_inspect_unkept.proofs.Quiet.{nothing_without_the_name}
use Rattle.gltf_inspect_unkept.proofs.laws.nothing_is_found_without_the_name.Goals as goal

pub returns : goal.returns
returns c = nothing_without_the_name
