use Rattle.gltf_required.proofs.Bare.{same_rules}
use Rattle.gltf_required.proofs.checking.whole.Goals as goal

pub returns-clause-rules : goal.returns-clause-rules
returns-clause-rules c =
    same_rules c.args.root c.from_json.result c.from_json.ensures.same c.from_json.ensures.rules
