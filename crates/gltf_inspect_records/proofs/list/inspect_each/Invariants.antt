use Rattle.std.proofs.Common.{◌≡◌, drop}
use Rattle.gltf_validation.specs.Locations.{places_of}
use Rattle.gltf_findings.specs.Checks.{told_after, elements_checks}
use Rattle.gltf_inspect_records.proofs.list.inspect_each.Given as goal

-- what is left of the walk, after what was reported so far, is the whole of it
abbrev pub invariant-loop-i : goal.invariant-loop-i
invariant-loop-i g l =
    told_after l.findings (places_of l.location)
    (elements_checks (g.T.Inspect.checks l.root) l.i (drop l.i l.values))
    ≡ told_after l.initial.findings (places_of l.location)
    (elements_checks (g.T.Inspect.checks l.root) 0 l.values)
