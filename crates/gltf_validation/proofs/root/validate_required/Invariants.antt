use Rattle.std.proofs.Common.{◌≡◌, drop}
use Rattle.gltf_validation.specs.Locations.{places_of}
use Rattle.gltf_validation.specs.Rules.{report_after}
use Rattle.gltf_validation.specs.Members.{elements_rules}
use Rattle.gltf_validation.specs.Documents.{supported_rules}
use Rattle.gltf_validation.proofs.root.validate_required.Given as goal

-- what is left of the walk, after what was reported so far, is the whole of it
abbrev pub invariant-loop-i : goal.invariant-loop-i
invariant-loop-i l =
    report_after l.report (places_of l.location)
    (elements_rules supported_rules l.i (drop l.i l.names))
    ≡ report_after l.initial.report (places_of l.location)
    (elements_rules supported_rules 0 l.names)
