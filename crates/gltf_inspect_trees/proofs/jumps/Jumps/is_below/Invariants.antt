use Rattle.std.proofs.Common.{◌≡◌}
use Rattle.gltf_inspect_trees.specs.Jumps.{is_above, rank}
use Rattle.gltf_inspect_trees.proofs.jumps.Jumps.is_below.Given as goal

-- what is above the node that is come to is above the first one
abbrev pub invariant-loop-next : goal.invariant-loop-next
invariant-loop-next l =
    is_above l.self.parents.items l.above l.node
    ≡ is_above l.self.parents.items l.above l.initial.node

abbrev pub decreases-loop-next : goal.decreases-loop-next
decreases-loop-next l = rank l.self.parents_come_first l.node
