use Rattle.std.proofs.Common.{sym, ◌∙◌, arith}
use Rattle.std.proofs.lemmas.List.{nil_from_length}
use Rattle.gltf_handles.specs.Lists.{position}
use Rattle.gltf_walk.proofs.Stepping.{popped, nothing_left, keeps_closed, keeps_again, keeps_first}
use Rattle.gltf_walk.proofs.Stepping.{keeps_whole, smaller_again, smaller_first}
use Rattle.gltf_walk.proofs.walking.walk.Goals as goal

pub levels-preserved-in_default-next : goal.levels-preserved-in_default-next
levels-preserved-in_default-next g c =
    keeps_closed _ _ _ _ _ _ (c.in-Some.siblings, c.in-Some.parent, c.in-Some.depth)
    c.in-Some.ensures.items c.levels.invariant
    (nothing_left (position c.in-Some.siblings) (position c.next.new.self)
    c.in_default-next.ensures.steps)

pub levels-preserved-then-again : goal.levels-preserved-then-again
levels-preserved-then-again g c =
    let mark = c.in_ok-again.ensures in
    rw (c.in_ok-push-3.ensures.items, c.in_ok-push-2.ensures.items)
    (keeps_again _ _ _ _ _ _ (c.in-Some.siblings, c.in-Some.parent, c.in-Some.depth)
    c.in-Some.ensures.items c.levels.invariant c.next.new.self c.in-Some-next.node c.index.result
    c.in_ok-again.again _ c.in-Some-next.ensures.steps c.index.ensures mark.before mark.marks
    mark.keeps c.if-again.true)

pub levels-smaller-then-again : goal.levels-smaller-then-again
levels-smaller-then-again g c =
    let mark = c.in_ok-again.ensures in
    rw c.in_ok-push-2.ensures.items
    (smaller_again _ _ _ _ _ _ (c.in-Some.siblings, c.in-Some.parent, c.in-Some.depth)
    c.in-Some.ensures.items c.levels.invariant c.next.new.self c.in-Some-next.node c.index.result
    c.in_ok-again.again _ c.in-Some-next.ensures.steps c.index.ensures mark.before mark.marks
    mark.keeps c.if-again.true)

pub overflow_add-depth : goal.overflow_add-depth
overflow_add-depth g c =
    let held = popped _ _ _ _ _ _ (c.in-Some.siblings, c.in-Some.parent, c.in-Some.depth)
    c.in-Some.ensures.items c.levels.invariant in
    omega (arith, held.1.shallow, c.levels.steps.ok, c.levels.steps.small)

pub levels-preserved : goal.levels-preserved
levels-preserved g c =
    let mark = c.in_ok-again.ensures in
    rw (c.in_ok-push-4.ensures.items, c.in_ok-push-3.ensures.items, c.in_ok-push-2.ensures.items)
    (keeps_first _ _ _ _ _ _ (c.in-Some.siblings, c.in-Some.parent, c.in-Some.depth)
    c.in-Some.ensures.items c.levels.invariant c.next.new.self c.in-Some-next.node c.index.result
    c.in_ok-again.again _ c.in-Some-next.ensures.steps c.index.ensures mark.before mark.marks
    mark.keeps c.if-again.false c.children.result c.index-in-Some.result c.index-in-Some.ensures
    c.children.ensures)

pub levels-smaller : goal.levels-smaller
levels-smaller g c =
    let mark = c.in_ok-again.ensures in
    rw (c.in_ok-push-4.ensures.items, c.in_ok-push-2.ensures.items)
    (smaller_first _ _ _ _ _ _ (c.in-Some.siblings, c.in-Some.parent, c.in-Some.depth)
    c.in-Some.ensures.items c.levels.invariant c.next.new.self c.in-Some-next.node c.index.result
    c.in_ok-again.again _ c.in-Some-next.ensures.steps c.index.ensures mark.before mark.marks
    mark.keeps c.if-again.false c.children.result c.index-in-Some.result c.index-in-Some.ensures
    c.children.ensures)

pub returns : goal.returns
returns g c =
    keeps_whole _ _ _ _ _
    (nil_from_length c.levels.open.items (sym c.levels.open.ok.0 ∙ c.in_default.ensures.cases.0))
    c.levels.invariant
