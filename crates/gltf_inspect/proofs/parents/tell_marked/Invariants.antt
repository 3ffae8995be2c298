use Rattle.std.proofs.Common.{◌≡◌, drop}
use Rattle.gltf_validation.specs.Locations.{places_of}
use Rattle.gltf_findings.specs.Checks.{told_after}
use Rattle.gltf_inspect.specs.Marks.{marked_parents_checks}
use Rattle.gltf_inspect.proofs.parents.tell_marked.Given as goal

-- what is left of the walk, after what was reported and marked so far, is the whole of it
abbrev pub invariant-loop-i : goal.invariant-loop-i
invariant-loop-i l =
    told_after l.findings (places_of l.location)
    (marked_parents_checks l.marks.items l.i (drop l.i l.nodes))
    ≡ told_after l.initial.findings (places_of l.location)
    (marked_parents_checks l.initial.marks.items 0 l.nodes)
