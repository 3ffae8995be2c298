use Rattle.std.proofs.Common.{arith}
use Rattle.gltf_inspect_nodes.proofs.Passing.{passed_all, ranked_first, forth}
use Rattle.gltf_inspect_nodes.proofs.order.end_forwards.Goals as goal

pub returns : goal.returns
returns c =
    passed_all forth c.args.table.now c.loop-i.table c.loop-i.i
    (ranked_first c.args.table.now c.requires) c.loop-i.invariant
    (λ k below. omega arith)
    (λ k below. omega arith)
