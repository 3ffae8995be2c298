use Rattle.gltf_required.proofs.Bare.{refused, same_rules, bare}
use Rattle.gltf_required.proofs.checking.bare.Goals as goal

pub returns-clause-left : goal.returns-clause-left
returns-clause-left c =
    bare c.args.root c.without_any-left.result c.from_json.result c.without_any-left.ensures
    c.from_json.ensures.same

pub returns-clause-rules : goal.returns-clause-rules
returns-clause-rules c =
    same_rules c.without_any-left.result c.from_json.result c.from_json.ensures.same
    c.from_json.ensures.rules

pub returns-clause-refused : goal.returns-clause-refused
returns-clause-refused c =
    refused c.args.root c.without_any-left.result c.from_json.result c.without_any-left.ensures
    c.from_json.ensures.refused
