use Rattle.std.proofs.Common.{◌<◌, arith}
use Rattle.gltf_inspect_trees.proofs.Setting.{all_depths}
use Rattle.gltf_inspect_trees.proofs.depths.depths_of.Goals as goal

pub returns : goal.returns
returns c =
    let past = c.loop-node-test.false in
    all_depths c.args.parents.now c.loop-node.depths.items c.loop-node.invariant.long
    (λ k below. c.loop-node.invariant.before k
    (let l : k < c.loop-node.node = omega arith in l))
