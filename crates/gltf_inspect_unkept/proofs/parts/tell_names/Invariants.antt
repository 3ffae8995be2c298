use Rattle.std.proofs.Common.{◌≡◌}
use Rattle.serde_json.specs.View.{members_view}
use Rattle.gltf_validation.specs.Locations.{places_of}
use Rattle.gltf_findings.specs.Checks.{told_after}
use Rattle.gltf_inspect_meshes.specs.Names.{has_name}
use Rattle.gltf_inspect_unkept.specs.Parts.{names_checks}
use Rattle.gltf_inspect_unkept.proofs.parts.tell_names.Given as goal

-- what is left of the walk, after what was reported so far, is the whole of it
abbrev pub invariant-loop-name : goal.invariant-loop-name
invariant-loop-name l =
    told_after l.findings (places_of l.location)
    (names_checks (has_name l.used) (members_view l.name-iterator))
    ≡ told_after l.initial.findings (places_of l.location)
    (names_checks (has_name l.used) (members_view l.members.entries))
