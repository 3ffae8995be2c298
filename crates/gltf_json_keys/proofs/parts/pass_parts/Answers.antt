use Rattle.std.proofs.Common.{◌≡◌, ◌<◌, ◌∷◌, ◌++◌, [], length, map, true, Some, arith, ap}
use Rattle.json.proofs.Grammar.{left, read_key-shorter, skip_value-shorter}
use Rattle.gltf_json_keys.specs.Keys.{is_among}
use Rattle.gltf_json_keys.specs.Passed.{JsonLacks}
use Rattle.gltf_json_keys.proofs.Runs.{named-push, whole_object}
use Rattle.gltf_json_keys.proofs.parts.pass_parts.Goals as goal

pub members-smaller : goal.members-smaller
members-smaller c =
    let l = c.members in
    let k = c.in-Ok-Some.key.now in
    let named = rw c.in-Ok-Some.field-0-is at c.in-Ok-Some.ensures.value in
    let key : length c.next_key.new.self < length l.rest =
    read_key-shorter l.rest (Some k) c.next_key.new.self named in
    let next = c.in_ok-pass_part-in-Ok-Some.ensures in
    let less : length c.pass_part.new.rest < length c.next_key.new.self =
    skip_value-shorter 126 c.next_key.new.self c.pass_part.new.rest (ap left next.1) in
    omega (arith, key, less)

pub members-preserved : goal.members-preserved
members-preserved c =
    let l = c.members in
    let k = c.in-Ok-Some.key.now in
    let named = rw c.in-Ok-Some.field-0-is at c.in-Ok-Some.ensures.value in
    let next = c.in_ok-pass_part-in-Ok-Some.ensures in (
      l.invariant.0 ++ (k, next.0) ∷ [],
      named-push
          (λ its j. is_among (map (λ k. k.now) c.args.parts.now) its ≡ true
          → JsonLacks c.args.name.now j)
          126 c.args.rest.now l.invariant.0 l.rest k next.0 c.next_key.new.self
          c.pass_part.new.rest l.invariant.1 named next.1 next.2,
    )

pub returns-in-Ok-None : goal.returns-in-Ok-None
returns-in-Ok-None c =
    let l = c.members in
    let closes = rw c.in-Ok-None.field-0-is at c.in-Ok-None.ensures.value in
    whole_object (map (λ k. k.now) c.args.parts.now) c.args.name.now c.args.rest.now l.invariant.0
    l.rest c.next_key.new.self l.invariant.1 closes
