use Rattle.std.proofs.Common.{◌≡◌, drop, ◌++◌, map}
use Rattle.gltf_inspect_nodes.specs.Roots.{led}
use Rattle.gltf_inspect_nodes.proofs.roots.mapped.Given as goal

-- what is written and what is left to write is the whole
abbrev pub invariant-loop-node : goal.invariant-loop-node
invariant-loop-node l =
    l.next.items ++ map (led l.table) (drop l.node-index l.table) ≡ map (led l.table) l.table
