use Rattle.std.proofs.Common.{◌≡◌, ◌∷◌, map, sym, ap, ◌∙◌}
use Rattle.std.proofs.lemmas.Option.{IfSome_then}
use Rattle.json.specs.Lex.{tokens}
use Rattle.json.specs.Json.{value}
use Rattle.json.specs.Token.{begin_object}
use Rattle.json.specs.Reads.{token_of}
use Rattle.serde_json.specs.Read.{max_depth}
use Rattle.gltf_json_keys.proofs.Values.{text_lacks}
use Rattle.gltf_json_keys.proofs.parts.pass_text.Goals as goal

pub returns : goal.returns
returns c =
    let parts = map (λ k. k.now) c.args.parts.now in
    let name = c.args.name.now in
    let starts : tokens c.args.text.now ≡ begin_object ∷ c.next.new.self =
    ap tokens (sym c.in-Ok.ensures.0) ∙ sym c.in-Ok-new.ensures.ok ∙ c.in-Some-BeginObject.ensures.value
    ∙ ap (λ t. token_of t ∷ c.next.new.self) c.in-Some-BeginObject.field-0-is in
    IfSome_then c.pass_parts.result c.pass_parts.ensures
    (λ u next. text_lacks parts name c.args.text.now next.0 c.pass_parts.new.rest
    (ap (value max_depth) starts ∙ next.1) next.2)
