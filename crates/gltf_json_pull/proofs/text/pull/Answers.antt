use Rattle.std.proofs.Common.{◌≡◌, List, [], Option, Some, None, false, sym, ap, ◌∙◌}
use Rattle.std.specs.Option.{is_some}
use Rattle.json.specs.Lex.{tokens}
use Rattle.json.specs.Token as spec
use Rattle.json.specs.Reads.{Yields}
use Rattle.json.specs.declared.token.Token.{Token}
use Rattle.serde_json.specs.Read.{max_depth, read}
use Rattle.gltf_json_tokens.specs.Tokens.{data_at}
use Rattle.gltf_json_pull.specs.PullLaws.{whole_text}
use Rattle.gltf_json_pull.proofs.text.pull.Goals as goal

none_left : (ts : List spec.Token) (next : Option Token) (us : List spec.Token)
    → Yields ts next us → false ≡ is_some next → ts ≡ []
none_left ts None us h e = h.0
none_left ts (Some t) us h e = absurd (cc)

pub returns : goal.returns
returns g c =
    let text = c.in-Ok.text.now in
    let got = c.in_ok-read.ensures in
    let ends : c.from_token.new.rest ≡ [] =
    none_left c.from_token.new.rest c.next-2.result c.next-2.new.self c.next-2.ensures.value
    c.if-is_some.ensures in
    let whole : data_at max_depth (tokens text) ≡ Some (got.0, []) =
    ap (data_at max_depth) (sym c.in-Ok-new.ensures.ok ∙ c.in_ok-first.ensures.value) ∙ got.1
    ∙ ap (λ r. Some (got.0, r)) ends in
    let reads = ap read (sym c.in-Ok.ensures.0) ∙ whole_text text got.0 whole in
    (c.in-Ok.ensures.1, (got.0, reads, got.2))
