use Rattle.std.proofs.Common.{◌≡◌, drop, ◌++◌}
use Rattle.gltf_inspect_nodes.specs.Roots.{numbers}
use Rattle.gltf_inspect_nodes.proofs.hierarchy.numbers.Given as goal

-- what is written and what is left to write is the whole
abbrev pub invariant-loop-i : goal.invariant-loop-i
invariant-loop-i l = l.found.items ++ numbers l.i (drop l.i l.nodes) ≡ numbers 0 l.nodes
