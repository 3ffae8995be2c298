use Rattle.std.proofs.Common.{◌∷◌, refl, ap, ◌∙◌}
use Rattle.json.specs.Token as spec
use Rattle.json.specs.Reads.{token_of}
use Rattle.serde_json.specs.Data.{boolean}
use Rattle.gltf_json_tokens.specs.Tokens.{data_at}
use Rattle.gltf_json_tokens.specs.RunLaws.{data_at-alone}
use Rattle.gltf_json_pull.proofs.pull.BoolFromToken.from_token.Goals as goal

pub returns-in-Bool : goal.returns-in-Bool
returns-in-Bool c =
    let n = c.args._depth in
    let ts = c.args._rest.now in
    let b = c.in-Bool.flag in (
      boolean b,
      ap (λ t. data_at n (token_of t ∷ ts)) c.in-Bool.is ∙ data_at-alone n (spec.boolean b) ts refl,
      refl,
    )
