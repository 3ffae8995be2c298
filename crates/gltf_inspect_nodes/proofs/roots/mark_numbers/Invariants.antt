use Rattle.std.proofs.Common.{◌≡◌, drop}
use Rattle.gltf_inspect_nodes.specs.Marks.{marked}
use Rattle.gltf_inspect_nodes.proofs.roots.mark_numbers.Given as goal

-- what is left to be marked, after what was so far, is the whole
abbrev pub invariant-loop-number : goal.invariant-loop-number
invariant-loop-number l =
    marked l.marks.items (drop l.number-index l.numbers) ≡ marked l.initial.marks.items l.numbers
