use Rattle.std.proofs.Common.{◌≡◌}
use Rattle.std.specs.Prelude.{filter, not}
use Rattle.gltf_foreign.specs.Place.{places_view}
use Rattle.gltf_foreign.specs.Walk.{is_moved}
use Rattle.gltf_foreign.proofs.elsewhere.named_elsewhere.Given as goal

abbrev pub invariant-places : goal.invariant-places
invariant-places l =
    places_view l.left.items ≡ filter (λ p. not (is_moved p)) (places_view l.yielded)
