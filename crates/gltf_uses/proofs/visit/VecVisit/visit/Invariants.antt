use Rattle.std.proofs.Common.{◌≡◌, drop}
use Rattle.gltf_validation.specs.Locations.{places_of}
use Rattle.gltf_uses.specs.Uses.{after_uses, elements_uses}
use Rattle.gltf_uses.proofs.visit.VecVisit.visit.Given as goal

-- what is left of the walk, after what was added so far, is the whole of it
abbrev pub invariant-loop-i : goal.invariant-loop-i
invariant-loop-i g l =
    after_uses g.S.Sink.after l.sink (places_of l.location)
    (elements_uses g.T.Visit.uses l.i (drop l.i l.value-items))
    ≡ after_uses g.S.Sink.after l.initial.sink (places_of l.location)
    (elements_uses g.T.Visit.uses 0 l.value-items)
