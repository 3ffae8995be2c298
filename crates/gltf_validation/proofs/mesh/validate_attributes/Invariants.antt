use Rattle.std.proofs.Common.{◌≡◌}
use Rattle.gltf_validation.specs.Locations.{places_of}
use Rattle.gltf_validation.specs.Rules.{report_after}
use Rattle.gltf_validation.specs.Meshes.{entries_rules}
use Rattle.gltf_validation.proofs.mesh.validate_attributes.Given as goal

-- what is left of the walk, after what was reported so far, is the whole of it
abbrev pub invariant-loop-semantic : goal.invariant-loop-semantic
invariant-loop-semantic g l =
    report_after l.report (places_of l.location)
    (entries_rules (g.T.Validate.rules l.counts) l.semantic-iterator)
    ≡ report_after l.initial.report (places_of l.location)
    (entries_rules (g.T.Validate.rules l.counts) l.attributes.entries)
