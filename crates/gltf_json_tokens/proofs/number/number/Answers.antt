use Rattle.std.proofs.Common.{◌≡◌, ℕ, ◌-◌, ◌==◌, true, false, List, length, take, drop}
use Rattle.std.proofs.Common.{slice_index, Option, Some, None, option_map, unwrap_or, Bor}
use Rattle.std.proofs.Common.{refl, sym, ap, ◌∙◌, arith}
use Rattle.std.proofs.lemmas.Grind.{common_steps}
use Rattle.std.specs.Option.{option_eq}
use Rattle.fast_float.specs.Text.{scan}
use Rattle.serde_json.specs.Read.{number_of, number_from}
use Rattle.gltf_json_tokens.proofs.number.number.Goals as goal

-- what a test of the first byte says of the list
begins : (first : Option (Bor ℕ)) (s : List ℕ) (b : Bor ℕ) → b.now ≡ 45
    → unwrap_or (option_map (λ x. x.now) first) 0 ≡ slice_index s 0
    → option_eq (λ x y. x.now == y.now) first (Some b) ≡ (slice_index s 0 == 45)
begins None s b is e = ap (λ n. n == 45) e
begins (Some x) s b is e = ap (λ n. x.now == n) is ∙ ap (λ n. n == 45) e

pub returns-then-eq : goal.returns-then-eq
unfolding number_of
returns-then-eq c =
    let s = c.as_bytes-bytes.result.now in
    let minus : (slice_index s 0 == 45) ≡ true =
    sym (begins c.first.result s _ refl (c.first.ensures.item.4 (omega arith) 0))
    ∙ sym c.eq.ensures ∙ c.if-eq.true in
    let digits : take (length s - 1) (drop 1 s) ≡ drop 1 s = grind (arith, common_steps) in
    let read : number_from true (scan (drop 1 s)) ≡ number_of s = rw minus in
    c.negative.ensures ∙ ap (number_from true) (c.scan.ensures.parts ∙ ap scan digits) ∙ read
    ∙ ap number_of c.as_bytes-bytes.ensures.value

pub returns-else-eq : goal.returns-else-eq
unfolding number_of
returns-else-eq c =
    let s = c.as_bytes-bytes.result.now in
    let digit : (slice_index s 0 == 45) ≡ false =
    sym (begins c.first.result s _ refl (c.first.ensures.item.4 (omega arith) 0))
    ∙ sym c.eq.ensures ∙ c.if-eq.false in
    let read : number_from false (scan s) ≡ number_of s = rw digit in
    c.unsigned.ensures ∙ ap (number_from false) c.scan-else-eq.ensures.parts ∙ read
    ∙ ap number_of c.as_bytes-bytes.ensures.value
