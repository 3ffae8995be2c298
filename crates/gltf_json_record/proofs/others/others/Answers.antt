use Rattle.std.proofs.Common.{true, false, map, string_bytes, rules}
use Rattle.gltf_json_record.proofs.UnknownMembers.{known_by_contains, known_skipped, unknown_copied}
use Rattle.gltf_json_record.proofs.others.others.Goals as goal

pub loop-name-preserved-then-not-contains : goal.loop-name-preserved-then-not-contains
loop-name-preserved-then-not-contains c =
    unknown_copied (map (λ k. k.now) c.args.known.now) c.into_iter-name-iterator.result
    c.loop-name.name-iterator c.next.new.self c.loop-name.others.entries
    c.insert.new.self.entries (c.in-Some.name.now, c.in-Some.member.now)
    c.in_ok-clone.field-0 c.in_ok-clone-2.field-0 (search rules) c.in-Some.ensures.steps
    (known_by_contains c.args.known.now c.as_str.result.now (string_bytes c.in-Some.name.now)
    c.contains.result false c.as_str.ensures.value c.contains.ensures.value
    c.if-not-contains.true)
    c.in_ok-clone.ensures.cases c.in_ok-clone-2.ensures.cases c.in_ok-insert.ensures.entries
    c.loop-name.invariant

pub loop-name-preserved : goal.loop-name-preserved
loop-name-preserved c =
    known_skipped (map (λ k. k.now) c.args.known.now) c.into_iter-name-iterator.result
    c.loop-name.name-iterator c.next.new.self c.loop-name.others.entries
    (c.in-Some.name.now, c.in-Some.member.now) (search rules) c.in-Some.ensures.steps
    (known_by_contains c.args.known.now c.as_str.result.now (string_bytes c.in-Some.name.now)
    c.contains.result true c.as_str.ensures.value c.contains.ensures.value
    c.if-not-contains.false)
    c.loop-name.invariant
