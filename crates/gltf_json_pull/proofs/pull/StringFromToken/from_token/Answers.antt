use Rattle.std.proofs.Common.{◌∷◌, Some, refl, ap, sym, ◌∙◌}
use Rattle.json.specs.Token as spec
use Rattle.json.specs.Reads.{token_of}
use Rattle.serde_json.specs.Data.{string}
use Rattle.gltf_json_tokens.specs.Tokens.{data_at}
use Rattle.gltf_json_tokens.specs.RunLaws.{data_at-alone}
use Rattle.gltf_json_pull.proofs.pull.StringFromToken.from_token.Goals as goal

pub returns-in-Ok : goal.returns-in-Ok
returns-in-Ok c =
    let n = c.args._depth in
    let ts = c.args._rest.now in
    let s = c.in-String.text.now in (
      string s,
      ap (λ t. data_at n (token_of t ∷ ts)) c.in-String.is
          ∙ data_at-alone n (spec.string s) ts refl,
      ap Some (sym c.in-Ok.ensures.ok),
    )
