use Rattle.std.proofs.Common.{◌≡◌}
use Rattle.gltf_inspect_nodes.specs.ViewMarks.{entries_marked}
use Rattle.gltf_inspect_nodes.proofs.view.mark_attributes.Given as goal

-- what is left to be marked, after what was so far, is the whole
abbrev pub invariant-loop-semantic : goal.invariant-loop-semantic
invariant-loop-semantic l =
    entries_marked l.accessors l.marks.items l.semantic-iterator
    ≡ entries_marked l.accessors l.initial.marks.items l.attributes.entries
