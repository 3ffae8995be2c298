use Rattle.gltf_json_keys.proofs.Runs.{found_or_not}
use Rattle.gltf_json_keys.proofs.parts.is_among.Goals as goal

pub returns : goal.returns
returns c = rw c.contains.ensures.value (found_or_not c.args.names.now c.args.name.now)
