-- Both loops keep that the values, or the members, so far are a run of the grammar from the token that
-- opened; a closing token then makes the run an array or an object, and the tokens left get fewer at
-- each step.
use Rattle.std.proofs.Common.{◌≡◌, ◌≢◌, ◌-◌, ◌<◌, ◌∷◌, ◌++◌, [], length, Some, None}
use Rattle.std.proofs.Common.{⊎_elim, sym, ap, ◌∙◌, arith}
use Rattle.json.specs.Token as spec
use Rattle.json.specs.Json.{after_end_array, value, null, boolean, number, string}
use Rattle.json.specs.Reads.{token_of}
use Rattle.json.proofs.Grammar.{read_key-shorter, value_is}
use Rattle.gltf_json_keys.specs.Passed.{JsonLacks}
use Rattle.gltf_json_keys.proofs.Runs.{run-push, named-push, next_array, next_object}
use Rattle.gltf_json_keys.proofs.Runs.{next-shorter}
use Rattle.gltf_json_keys.proofs.parts.+pass.Goals as goal

pub pass_array-items-smaller : goal.pass_array-items-smaller
pass_array-items-smaller t c =
    let l = c.items in
    let s = c.take_end_array.new.self in
    let going : (after_end_array l.rest ≡ None) × (s ≡ l.rest) = grind arith in
    let starts : l.rest ≡ token_of c.in_ok-first.first ∷ c.next.new.self =
    sym going.1 ∙ c.in_ok-first.ensures.value in
    let next = c.in_ok-pass_value.ensures in
    let less : length c.pass_value.new.rest < length (token_of c.in_ok-first.first ∷ c.next.new.self) =
    next-shorter (JsonLacks c.args.name.now) (c.args.depth - 1) _ c.pass_value.new.rest next in
    omega (arith, less, ap length starts)

pub pass_array-items-preserved : goal.pass_array-items-preserved
pass_array-items-preserved t c =
    let l = c.items in
    let s = c.take_end_array.new.self in
    let going : (after_end_array l.rest ≡ None) × (s ≡ l.rest) = grind arith in
    let starts : l.rest ≡ token_of c.in_ok-first.first ∷ c.next.new.self =
    sym going.1 ∙ c.in_ok-first.ensures.value in
    let next = c.in_ok-pass_value.ensures in (
      l.invariant.0 ++ next.0 ∷ [],
      run-push (JsonLacks c.args.name.now) (c.args.depth - 1) c.args.rest.now l.invariant.0 l.rest
          next.0 c.pass_value.new.rest l.invariant.1
          (ap (value (c.args.depth - 1)) starts ∙ next.1) next.2,
    )

pub pass_array-returns : goal.pass_array-returns
pass_array-returns t c =
    let l = c.items in
    let end = c.take_end_array.new.self in
    let closes : after_end_array l.rest ≡ Some end = grind arith in
    next_array c.args.name.now c.args.depth c.args.rest.now l.invariant.0 l.rest end (omega arith)
    l.invariant.1 closes

pub pass_object-members-smaller : goal.pass_object-members-smaller
pass_object-members-smaller t c =
    let l = c.members in
    let k = c.in-Ok-Some.key.now in
    let named = rw c.in-Ok-Some.field-0-is at c.in-Ok-Some.ensures.value in
    let key : length c.next_key.new.self < length l.rest =
    read_key-shorter l.rest (Some k) c.next_key.new.self named in
    let less : length c.pass_member.new.rest < length c.next_key.new.self =
    next-shorter (JsonLacks c.args.name.now) (c.args.depth - 1) c.next_key.new.self
    c.pass_member.new.rest c.in_ok-pass_member-in-Ok-Some.ensures.1 in
    omega (arith, key, less)

pub pass_object-members-preserved : goal.pass_object-members-preserved
pass_object-members-preserved t c =
    let l = c.members in
    let k = c.in-Ok-Some.key.now in
    let named = rw c.in-Ok-Some.field-0-is at c.in-Ok-Some.ensures.value in
    let member = c.in_ok-pass_member-in-Ok-Some.ensures in
    let next = member.1 in (
      l.invariant.0 ++ (k, next.0) ∷ [],
      named-push (λ its j. (its ≢ c.args.name.now) × JsonLacks c.args.name.now j)
          (c.args.depth - 1) c.args.rest.now l.invariant.0 l.rest k next.0 c.next_key.new.self
          c.pass_member.new.rest l.invariant.1 named next.1 (member.0, next.2),
    )

pub pass_object-returns-in-Ok-None : goal.pass_object-returns-in-Ok-None
pass_object-returns-in-Ok-None t c =
    let l = c.members in
    let closes = rw c.in-Ok-None.field-0-is at c.in-Ok-None.ensures.value in
    next_object c.args.name.now c.args.depth c.args.rest.now l.invariant.0 l.rest
    c.next_key.new.self (omega arith) l.invariant.1 closes

-- a value of one token
pub pass_value-returns-in-Null : goal.pass_value-returns-in-Null
pass_value-returns-in-Null t c =
    let n = c.args.depth in
    let ts = c.args.rest.now in
    ⊎_elim (λ e. (null, ap (λ x. value n (token_of x ∷ ts)) e ∙ value_is n (spec.null ∷ ts), tt))
    (⊎_elim
    (λ e. (
      boolean e.0,
      ap (λ x. value n (token_of x ∷ ts)) e.1 ∙ value_is n (spec.boolean e.0 ∷ ts),
      tt,
    ))
    (⊎_elim
    (λ e. (
      number e.0.now,
      ap (λ x. value n (token_of x ∷ ts)) e.1 ∙ value_is n (spec.number e.0.now ∷ ts),
      tt,
    ))
    (λ e. (
      string e.0.now,
      ap (λ x. value n (token_of x ∷ ts)) e.1 ∙ value_is n (spec.string e.0.now ∷ ts),
      tt,
    ))))
    c.in-Null.is
