use Rattle.serde_json.specs.View.{view}
use Rattle.gltf_json_record.proofs.Refusals.{refused_apart}
use Rattle.gltf_json_record.proofs.read.read.Goals as goal

pub returns-clause-refused : goal.returns-clause-refused
returns-clause-refused g c = refused_apart g.T.FromValue.kind
    (view c.args.value.now) c.from_value.result c.from_value.ensures.err
