use Rattle.std.proofs.Common.{◌≡◌, drop}
use Rattle.gltf_inspect_nodes.specs.ViewMarks.{targets_marked}
use Rattle.gltf_inspect_nodes.proofs.view.mark_targets.Given as goal

-- what is left to be marked, after what was so far, is the whole
abbrev pub invariant-loop-target : goal.invariant-loop-target
invariant-loop-target l =
    targets_marked l.accessors l.marks.items (drop l.target-index l.targets)
    ≡ targets_marked l.accessors l.initial.marks.items l.targets
