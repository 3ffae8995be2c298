use Rattle.std.proofs.Common.{◌≡◌, drop}
use Rattle.gltf_inspect_nodes.specs.Roots.{are_fixed}
use Rattle.gltf_inspect_nodes.proofs.roots.are_fixed.Given as goal

-- those that are left lead to themselves where all do
abbrev pub invariant-loop-node : goal.invariant-loop-node
invariant-loop-node l =
    are_fixed l.table (drop l.node-index l.nodes) ≡ are_fixed l.table l.nodes
