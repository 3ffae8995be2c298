use Rattle.gltf_inspect_trees.specs.Jumps.{AreJumps}
use Rattle.gltf_inspect_trees.proofs.jumps.set_jumps.Given as goal

-- each jump so far leads up
abbrev pub invariant-loop-i : goal.invariant-loop-i
invariant-loop-i l = AreJumps l.first l.parents l.jumps

abbrev pub invariant-loop-i-else-first : goal.invariant-loop-i-else-first
invariant-loop-i-else-first l = AreJumps l.first l.parents l.jumps
