use Rattle.std.proofs.Common.{◌-◌, length}
use Rattle.gltf_inspect_trees.proofs.Setting.{AreSteps}
use Rattle.gltf_inspect_trees.proofs.depths.depth_of.Given as goal

-- so many steps lead to the node that is come to
abbrev pub invariant-loop-node : goal.invariant-loop-node
invariant-loop-node l = AreSteps l.parents l.initial.at l.steps l.at

abbrev pub decreases-loop-node : goal.decreases-loop-node
decreases-loop-node l = length l.parents - l.steps
