use Rattle.std.proofs.Common.{◌∙◌, sym, ap, arith}
use Rattle.gltf_inspect_trees.specs.Jumps.{next_up}
use Rattle.gltf_inspect_trees.proofs.Jumping.{next-same, next-lower, next-none, low-is}
use Rattle.gltf_inspect_trees.proofs.jumps.Jumps.is_below.Goals as goal

pub returns-then-next-node : goal.returns-then-next-node
returns-then-next-node c =
    let first = c.args.self.now.parents_come_first in
    let p = c.args.self.now.parents.items in
    let t = c.args.self.now.jumps.items in
    let most = c.rank-most.ensures in
    let here = c.rank.ensures in
    let more = c.loop-next-test.true in
    sym (next-none first p t c.args.above c.loop-next.node c.next_up-next.result
    c.args.self.now.rise (omega arith)
    c.if-next-node.true
    (c.next_up-next.ensures
    ∙ ap (λ m. next_up c.args.self.now.parents_come_first c.args.self.now.parents.items
    c.args.self.now.jumps.items m c.loop-next.node) most))
    ∙ c.loop-next.invariant

pub loop-next-smaller : goal.loop-next-smaller
loop-next-smaller c =
    let first = c.args.self.now.parents_come_first in
    let p = c.args.self.now.parents.items in
    let t = c.args.self.now.jumps.items in
    next-lower first p t c.rank-most.result c.loop-next.node c.next_up-next.result
    c.args.self.now.rise c.if-next-node.false c.next_up-next.ensures

pub loop-next-preserved : goal.loop-next-preserved
loop-next-preserved c =
    let first = c.args.self.now.parents_come_first in
    let p = c.args.self.now.parents.items in
    let t = c.args.self.now.jumps.items in
    let most = c.rank-most.ensures in
    let here = c.rank.ensures in
    let more = c.loop-next-test.true in
    next-same first p t c.args.above c.loop-next.node c.next_up-next.result
    c.args.self.now.rise (omega arith)
    (c.next_up-next.ensures
    ∙ ap (λ m. next_up c.args.self.now.parents_come_first c.args.self.now.parents.items
    c.args.self.now.jumps.items m c.loop-next.node) most)
    ∙ c.loop-next.invariant

pub returns : goal.returns
returns c =
    let first = c.args.self.now.parents_come_first in
    let p = c.args.self.now.parents.items in
    let most = c.rank-most.ensures in
    let here = c.rank.ensures in
    let low = c.loop-next-test.false in
    sym (low-is first p c.args.above c.loop-next.node c.args.self.now.rise.in_order
    (omega arith))
    ∙ c.loop-next.invariant
