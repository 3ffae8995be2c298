use Rattle.std.proofs.Common.{ap, ◌∙◌}
use Rattle.serde_json.specs.View.{view}
use Rattle.gltf_json_tokens.specs.Tokens.{data_at}
use Rattle.gltf_json_pull.proofs.table.pass.Goals as goal

pub returns : goal.returns
returns c = (
  view c.in-Ok-Some.field-0-0,
  ap (data_at c.args.depth) c.in_ok-first.ensures.value
      ∙ (rw c.in-Ok-Some.field-0-is at c.in-Ok-Some.ensures),
)
