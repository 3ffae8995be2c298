use Rattle.std.proofs.Common.{◌∷◌, refl, ap, ◌∙◌}
use Rattle.json.specs.Token as spec
use Rattle.json.specs.Reads.{token_of}
use Rattle.serde_json.specs.Data.{null}
use Rattle.gltf_json_tokens.specs.Tokens.{data_at}
use Rattle.gltf_json_tokens.specs.RunLaws.{data_at-alone}
use Rattle.gltf_json_pull.specs.PullLaws.{not_null, there_member}
use Rattle.gltf_json_pull.proofs.Tokens.{not_null_token}
use Rattle.gltf_json_pull.proofs.pull.member.Goals as goal

pub returns-in-Null : goal.returns-in-Null
returns-in-Null g c =
    let n = c.args.depth in
    let ts = c.next.new.self in (
      null,
      ap (data_at n) c.in_ok-first.ensures.value
          ∙ ap (λ t. data_at n (token_of t ∷ ts)) c.in-Null.is
          ∙ data_at-alone n spec.null ts refl,
      refl,
    )

pub returns : goal.returns
returns g c =
    let n = c.args.depth in
    let first = c.in_ok-first.first in
    let ts = c.next.new.self in
    let read = c.in_ok-from_token.ensures in
    let other = not_null_token first c.in_default.not-Null in (
      read.0,
      ap (data_at n) c.in_ok-first.ensures.value ∙ read.1,
      there_member g.T.FromValue.kind read.0 c.in_ok-from_token.field-0
          (not_null n (token_of first) ts read.0 c.from_token.new.rest other read.1) read.2,
    )
