use Rattle.gltf_options.proofs.Listed.{found_or_not}
use Rattle.gltf_options.proofs.split.is_one_of.Goals as goal

pub returns : goal.returns
returns c = rw c.contains.ensures.value (found_or_not c.args.names.now c.args.name.now)
