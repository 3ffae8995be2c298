use Rattle.std.proofs.Common.{◌≡◌, drop}
use Rattle.gltf_validation.specs.Locations.{places_of}
use Rattle.gltf_findings.specs.Checks.{told_after, elements_checks}
use Rattle.gltf_inspect_meshes.specs.Names.{has_name}
use Rattle.gltf_inspect.specs.Extensions.{required_name_checks}
use Rattle.gltf_inspect.proofs.extensions.tell_required.Given as goal

-- what is left of the walk, after what was reported so far, is the whole of it
abbrev pub invariant-loop-i : goal.invariant-loop-i
invariant-loop-i l =
    told_after l.findings (places_of l.location)
    (elements_checks (required_name_checks (has_name l.declared)) l.i (drop l.i l.required))
    ≡ told_after l.initial.findings (places_of l.location)
    (elements_checks (required_name_checks (has_name l.declared)) 0 l.required)
