use Rattle.std.proofs.Common.{◌≡◌, drop}
use Rattle.serde_json.specs.View.{view}
use Rattle.gltf_validation.specs.Locations.{places_of}
use Rattle.gltf_findings.specs.Checks.{told_after}
use Rattle.gltf_inspect_values.specs.Bounds.{each_checks}
use Rattle.gltf_inspect_values.specs.Extents.{extents_checks}
use Rattle.gltf_inspect_values.proofs.bounds.tell_columns.Given as goal

-- what is left of the walk, after what was reported so far, is the whole of it
abbrev pub invariant-loop-i : goal.invariant-loop-i
invariant-loop-i l =
    told_after l.findings (places_of l.location)
    (each_checks (λ c v. extents_checks l.bound l.kind l.extents c (view v)) l.i
    (drop l.i l.values))
    ≡ told_after l.initial.findings (places_of l.location)
    (each_checks (λ c v. extents_checks l.bound l.kind l.extents c (view v)) 0 l.values)
