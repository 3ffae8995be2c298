use Rattle.gltf_options.proofs.Left.{none_taken}
use Rattle.gltf_options.proofs.laws.an_empty_list_takes_nothing.Goals as goal

pub returns : goal.returns
returns c = none_taken
