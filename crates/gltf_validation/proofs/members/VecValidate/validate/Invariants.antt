use Rattle.std.proofs.Common.{◌≡◌, drop}
use Rattle.gltf_validation.specs.Locations.{places_of}
use Rattle.gltf_validation.specs.Rules.{report_after}
use Rattle.gltf_validation.specs.Members.{elements_rules}
use Rattle.gltf_validation.proofs.members.VecValidate.validate.Given as goal

-- what is left of the walk, after what was reported so far, is the whole of it
abbrev pub invariant-loop-i : goal.invariant-loop-i
invariant-loop-i g l =
    report_after l.report (places_of l.location)
    (elements_rules (g.T.Validate.rules l.counts) l.i (drop l.i l.value-items))
    ≡ report_after l.initial.report (places_of l.location)
    (elements_rules (g.T.Validate.rules l.counts) 0 l.value-items)
