use Rattle.std.proofs.Common.{◌≡◌, ◌-◌}
use Rattle.gltf_meshopt.specs.Reading.{after}
use Rattle.gltf_meshopt.specs.Indices.{all_stored, indices_at}
use Rattle.gltf_meshopt.proofs.indices.push_indices.Given as goal

abbrev pub invariant-loop : goal.invariant-loop
invariant-loop l =
    after l.out.items (all_stored l.stride (indices_at (l.count - l.counter) l.even l.odd l.rest))
    ≡ after l.fn.out.items (all_stored l.stride (indices_at l.count 0 0 l.bytes))
