use Rattle.std.proofs.Common.{◌≡◌}
use Rattle.gltf_validation.specs.Locations.{places_of}
use Rattle.gltf_findings.specs.Checks.{told_after}
use Rattle.gltf_inspect_meshes.specs.Names.{has_name}
use Rattle.gltf_inspect_extensions.specs.Extended.{entries_checks}
use Rattle.gltf_inspect_extensions.proofs.extended.tell_others.Given as goal

-- what is left of the walk, after what was reported so far, is the whole of it
abbrev pub invariant-loop-name : goal.invariant-loop-name
invariant-loop-name l =
    told_after l.findings (places_of l.location) (entries_checks (has_name l.used) l.name-iterator)
    ≡ told_after l.initial.findings (places_of l.location)
    (entries_checks (has_name l.used) l.others.entries)
