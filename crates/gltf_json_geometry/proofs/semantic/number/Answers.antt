use Rattle.std.proofs.Common.{◌∷◌, [], sym, ◌∙◌, true≢false, arith}
use Rattle.std.proofs.lemmas.Slice.Eq.{bytes_eq-Decides}
use Rattle.std.proofs.lemmas.Str.Pattern.{starts_char}
use Rattle.gltf_json_geometry.proofs.Numbers.{zero_text, no_padding, no_sign, read_number}
use Rattle.gltf_json_geometry.proofs.semantic.number.Goals as goal

pub returns-then-eq : goal.returns-then-eq
returns-then-eq c = zero_text c.args.digits.now
    ((bytes_eq-Decides c.args.digits.now (48 ∷ [])).0 (sym c.eq.ensures ∙ c.if-eq.true))

pub returns-then-starts_with : goal.returns-then-starts_with
returns-then-starts_with c =
    no_padding c.args.digits.now ((starts_char 48 c.args.digits.now c.starts_with.result
    c.starts_with.ensures.cases (omega arith) (omega arith)).0 c.if-starts_with.true)
    (λ is. true≢false (sym ((bytes_eq-Decides c.args.digits.now (48 ∷ [])).1 is) ∙ sym c.eq.ensures
    ∙ c.if-eq.false))

pub returns-then-starts_with-2 : goal.returns-then-starts_with-2
returns-then-starts_with-2 c =
    no_sign c.args.digits.now ((starts_char 43 c.args.digits.now
    c.starts_with-else-starts_with.result c.starts_with-else-starts_with.ensures.cases
    (omega arith) (omega arith)).0 c.if-starts_with-2.true)

pub returns-else-starts_with-2 : goal.returns-else-starts_with-2
returns-else-starts_with-2 c =
    read_number c.args.digits.now c.parse.result c.ok.result c.ok.ensures.value
    c.parse.ensures.value.0
    (λ is. true≢false (sym ((starts_char 43 c.args.digits.now c.starts_with-else-starts_with.result
    c.starts_with-else-starts_with.ensures.cases (omega arith) (omega arith)).1 is)
    ∙ c.if-starts_with-2.false))
    (λ is. true≢false (sym ((starts_char 48 c.args.digits.now c.starts_with.result
    c.starts_with.ensures.cases (omega arith) (omega arith)).1 is) ∙ c.if-starts_with.false))
