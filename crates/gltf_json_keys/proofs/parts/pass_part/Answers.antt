use Rattle.std.proofs.Common.{true≢false, sym, ◌∙◌}
use Rattle.json.specs.Json.{value}
use Rattle.json.proofs.Grammar.{left_some}
use Rattle.gltf_json_keys.proofs.parts.pass_part.Goals as goal

-- the value of another member is passed over as it is
pub returns-in-Ok : goal.returns-in-Ok
returns-in-Ok c =
    let passed = left_some (value 126 c.args.rest.now) c.skip_value.new.self c.in-Ok.ensures.value in (
      passed.0,
      passed.1,
      λ yes. absurd (true≢false (sym yes ∙ sym c.is_among.ensures ∙ c.if-is_among.false)),
    )
