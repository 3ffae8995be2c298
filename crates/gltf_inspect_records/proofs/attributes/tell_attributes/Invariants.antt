use Rattle.std.proofs.Common.{◌≡◌}
use Rattle.gltf_validation.specs.Locations.{places_of}
use Rattle.gltf_findings.specs.Checks.{told_after}
use Rattle.gltf_inspect_records.specs.Attributes.{entries_checks}
use Rattle.gltf_inspect_records.proofs.attributes.tell_attributes.Given as goal

-- what is left of the walk, after what was reported so far, is the whole of it
abbrev pub invariant-loop-semantic : goal.invariant-loop-semantic
invariant-loop-semantic l =
    told_after l.findings (places_of l.location)
    (entries_checks l.vertices l.has_normals l.accessors l.semantic-iterator)
    ≡ told_after l.initial.findings (places_of l.location)
    (entries_checks l.vertices l.has_normals l.accessors l.attributes.entries)
