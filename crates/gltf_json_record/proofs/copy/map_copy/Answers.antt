use Rattle.gltf_json_record.proofs.Copies.{clone_found}
use Rattle.gltf_json_record.proofs.copy.map_copy.Goals as goal

pub returns : goal.returns
returns c = clone_found c.args.members.now c.clone.result _ c.clone.ensures.cases
