use Rattle.std.proofs.Common.{◌+◌, ◌-◌, length}
use Rattle.gltf_inspect_nodes.proofs.Passing.{Passed, back}
use Rattle.gltf_inspect_nodes.proofs.order.end_backwards.Given as goal

-- those so far lead to their ends
abbrev pub invariant-loop-i : goal.invariant-loop-i
invariant-loop-i l =
    Passed (back (length l.initial.table)) l.initial.table l.table
    (length l.initial.table + 1 - l.i)
