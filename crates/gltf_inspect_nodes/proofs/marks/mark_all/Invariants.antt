use Rattle.std.proofs.Common.{◌≡◌, drop}
use Rattle.gltf_inspect_nodes.specs.Marks.{marked_all}
use Rattle.gltf_inspect_nodes.proofs.marks.mark_all.Given as goal

-- what is left to be marked, after what was so far, is the whole
abbrev pub invariant-loop-value : goal.invariant-loop-value
invariant-loop-value g l =
    marked_all g.T.Names.named l.marks.items (drop l.value-index l.values)
    ≡ marked_all g.T.Names.named l.initial.marks.items l.values
