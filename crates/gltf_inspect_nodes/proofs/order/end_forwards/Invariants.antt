use Rattle.gltf_inspect_nodes.proofs.Passing.{Passed, forth}
use Rattle.gltf_inspect_nodes.proofs.order.end_forwards.Given as goal

-- those so far lead to their ends
abbrev pub invariant-loop-i : goal.invariant-loop-i
invariant-loop-i l = Passed forth l.initial.table l.table l.i
