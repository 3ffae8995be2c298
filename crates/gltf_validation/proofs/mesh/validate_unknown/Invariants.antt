use Rattle.std.proofs.Common.{◌≡◌, drop}
use Rattle.gltf_validation.specs.Locations.{places_of}
use Rattle.gltf_validation.specs.Rules.{report_after}
use Rattle.gltf_validation.specs.Meshes.{unknown_rules}
use Rattle.gltf_validation.proofs.mesh.validate_unknown.Given as goal

-- what is left of the walk, after what was reported so far, is the whole of it
abbrev pub invariant-loop-name : goal.invariant-loop-name
invariant-loop-name l =
    report_after l.report (places_of l.location) (unknown_rules (drop l.name-index l.names))
    ≡ report_after l.initial.report (places_of l.location) (unknown_rules l.names)
