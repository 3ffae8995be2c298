use Rattle.std.proofs.Common.{◌≤◌, ◌+◌, ◌∙◌, sym, ap, subst, arith, length, get_or, rules}
use Rattle.gltf_inspect_trees.specs.Depths.{IsDepth}
use Rattle.gltf_inspect_trees.proofs.Deep.{few}
use Rattle.gltf_inspect_trees.proofs.Setting.{AreSteps, unknown_moved, step_more, too_far, so_deep}
use Rattle.gltf_inspect_trees.proofs.depths.depth_of.Goals as goal

pub returns-then-steps-parents : goal.returns-then-steps-parents
returns-then-steps-parents c =
    too_far c.args.parents.now c.args.node c.loop-node.steps c.loop-node.at c.loop-node.invariant
    (unknown_moved c.args.parents.now c.args.depths.now c.loop-node.at
    (sym c.is_known.ensures ∙ c.loop-node-test.true))
    c.if-steps-parents.true

pub loop-node-preserved : goal.loop-node-preserved
loop-node-preserved c =
    subst (λ v. AreSteps c.args.parents.now c.args.node (c.loop-node.steps + 1) v)
    (sym c.led-at.ensures)
    (step_more c.args.parents.now c.args.node c.loop-node.steps c.loop-node.at
    c.loop-node.invariant
    (unknown_moved c.args.parents.now c.args.depths.now c.loop-node.at
    (sym c.is_known.ensures ∙ c.loop-node-test.true))
    c.if-steps-parents.false)

pub overflow_add-result : goal.overflow_add-result
overflow_add-result c =
    let same = c.depth.ensures in
    let most = few c.args.parents.now
    (c.loop-node.steps + get_or c.args.depths.now c.loop-node.at 0) c.args.node
    (so_deep c.args.parents.now c.args.depths.now c.args.node c.loop-node.steps c.loop-node.at
    c.loop-node.invariant c.requires (sym c.is_known.ensures ∙ c.loop-node-test.false)) in
    let all : c.loop-node.steps + c.depth.result ≤ length c.args.parents.now = omega arith in
    search rules

pub returns : goal.returns
returns c =
    subst (λ d. IsDepth c.args.parents.now (c.loop-node.steps + d) c.args.node)
    (sym c.depth.ensures)
    (so_deep c.args.parents.now c.args.depths.now c.args.node c.loop-node.steps c.loop-node.at
    c.loop-node.invariant c.requires (sym c.is_known.ensures ∙ c.loop-node-test.false))
