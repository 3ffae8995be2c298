use Rattle.std.proofs.Common.{◌≡◌, drop}
use Rattle.gltf_validation.specs.Locations.{places_of}
use Rattle.gltf_findings.specs.Checks.{told_after, elements_checks}
use Rattle.gltf_inspect_meshes.specs.Targets.{displacing_checks}
use Rattle.gltf_inspect_meshes.proofs.target.tell_targets.Given as goal

-- what is left of the walk, after what was reported so far, is the whole of it
abbrev pub invariant-loop-i : goal.invariant-loop-i
invariant-loop-i l =
    told_after l.findings (places_of l.location)
    (elements_checks (displacing_checks l.accessors l.positions l.normals l.tangents) l.i
    (drop l.i l.primitive.targets.items))
    ≡ told_after l.initial.findings (places_of l.location)
    (elements_checks (displacing_checks l.accessors l.positions l.normals l.tangents) 0
    l.primitive.targets.items)
