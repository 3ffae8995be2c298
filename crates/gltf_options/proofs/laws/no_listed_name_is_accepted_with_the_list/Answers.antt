use Rattle.gltf_options.proofs.Left.{accepted_with_list}
use Rattle.gltf_options.proofs.laws.no_listed_name_is_accepted_with_the_list.Goals as goal

pub returns : goal.returns
returns c = accepted_with_list
