use Rattle.std.proofs.Common.{◌≡◌, drop}
use Rattle.gltf_validation.specs.Locations.{places_of}
use Rattle.gltf_findings.specs.Checks.{told_after}
use Rattle.gltf_inspect_meshes.specs.Names.{has_name}
use Rattle.gltf_inspect.specs.Extensions.{unseen_checks}
use Rattle.gltf_inspect.proofs.extensions.tell_seen.Given as goal

-- what is left of the walk, after what was reported and seen so far, is the whole of it
abbrev pub invariant-loop-i : goal.invariant-loop-i
invariant-loop-i l =
    told_after l.findings (places_of l.location)
    (unseen_checks (has_name l.seen) l.i (drop l.i l.names))
    ≡ told_after l.initial.findings (places_of l.location)
    (unseen_checks (has_name l.initial.seen) 0 l.names)
