use Rattle.std.proofs.Common.{◌≡◌, ◌++◌}
use Rattle.gltf_foreign.specs.Place.{at_view, places_view, under}
use Rattle.gltf_foreign.proofs.place.add_under.Given as goal

abbrev pub invariant-places : goal.invariant-places
invariant-places l =
    places_view l.all.items
    ≡ places_view l.initial.all.items ++ under (at_view l.at) (places_view l.yielded)
