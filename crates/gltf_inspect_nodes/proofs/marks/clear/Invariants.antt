use Rattle.std.proofs.Common.{◌≡◌, drop}
use Rattle.gltf_inspect_nodes.specs.Marks.{cleared}
use Rattle.gltf_inspect_nodes.proofs.marks.clear.Given as goal

-- what is left to be cleared, after what was so far, is the whole
abbrev pub invariant-loop-entry : goal.invariant-loop-entry
invariant-loop-entry g l =
    cleared g.E.Entry.key l.marks.items (drop l.entry-index l.entries)
    ≡ cleared g.E.Entry.key l.initial.marks.items l.entries
