use Rattle.std.proofs.Common.{◌≡◌, drop}
use Rattle.gltf_validation.specs.Locations.{places_of}
use Rattle.gltf_findings.specs.Checks.{told_after}
use Rattle.gltf_uses.specs.Usage.{unset, unset_from}
use Rattle.gltf_inspect.specs.Unused.{unused_checks}
use Rattle.gltf_inspect.proofs.unused.tell_unmarked.Given as goal

-- what is left of the walk, after what was reported so far, is the whole of it
abbrev pub invariant-loop-i : goal.invariant-loop-i
invariant-loop-i l =
    told_after l.findings (places_of l.location) (unused_checks (unset_from l.i (drop l.i l.marks)))
    ≡ told_after l.initial.findings (places_of l.location) (unused_checks (unset l.marks))
