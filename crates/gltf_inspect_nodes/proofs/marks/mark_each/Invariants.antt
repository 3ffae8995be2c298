use Rattle.std.proofs.Common.{◌≡◌, drop}
use Rattle.gltf_inspect_nodes.specs.Marks.{marked}
use Rattle.gltf_inspect_nodes.proofs.marks.mark_each.Given as goal

-- what is left to be marked, after what was so far, is the whole
abbrev pub invariant-loop-node : goal.invariant-loop-node
invariant-loop-node l =
    marked l.marks.items (drop l.node-index l.nodes) ≡ marked l.initial.marks.items l.nodes
