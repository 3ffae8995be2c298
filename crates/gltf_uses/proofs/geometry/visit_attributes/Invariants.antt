use Rattle.std.proofs.Common.{◌≡◌}
use Rattle.gltf_validation.specs.Locations.{places_of}
use Rattle.gltf_uses.specs.Geometry.{entries_uses}
use Rattle.gltf_uses.specs.Uses.{after_uses}
use Rattle.gltf_uses.proofs.geometry.visit_attributes.Given as goal

-- what is left of the walk, after what was added so far, is the whole of it
abbrev pub invariant-loop-semantic : goal.invariant-loop-semantic
invariant-loop-semantic g l =
    after_uses g.S.Sink.after l.sink (places_of l.location)
    (entries_uses g.T.Visit.uses l.semantic-iterator)
    ≡ after_uses g.S.Sink.after l.initial.sink (places_of l.location)
    (entries_uses g.T.Visit.uses l.attributes.entries)
