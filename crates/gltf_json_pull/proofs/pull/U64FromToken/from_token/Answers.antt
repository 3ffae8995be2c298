use Rattle.std.proofs.Common.{◌∷◌, option_map, refl, ap, sym, ◌∙◌}
use Rattle.json.specs.Token as spec
use Rattle.json.specs.Reads.{token_of}
use Rattle.serde_json.specs.Data.{number}
use Rattle.serde_json.specs.View.{number_view}
use Rattle.gltf_json_tokens.specs.Tokens.{data_at}
use Rattle.gltf_json_tokens.specs.RunLaws.{data_at-alone}
use Rattle.gltf_json_pull.proofs.pull.U64FromToken.from_token.Goals as goal

pub returns-in_ok-whole-in-Number : goal.returns-in_ok-whole-in-Number
returns-in_ok-whole-in-Number c =
    let n = c.args._depth in
    let ts = c.args._rest.now in
    let s = c.in-Number.text.now in
    let x = number_view c.in_ok-found-in-Number.found in (
      number x,
      ap (λ t. data_at n (token_of t ∷ ts)) c.in-Number.is ∙ data_at-alone n (spec.number s) ts refl
          ∙ ap (λ o. option_map (λ d. (d, ts)) (option_map number o))
          (sym c.in_ok-found-in-Number.ensures),
      sym c.in_ok-whole-in-Number.ensures,
    )
