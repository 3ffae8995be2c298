use Rattle.std.proofs.Common.{◌≡◌, ◌-◌}
use Rattle.gltf_meshopt.specs.Reading.{after}
use Rattle.gltf_meshopt.specs.Attributes.{blocks_at}
use Rattle.gltf_meshopt.proofs.attributes.push_blocks.Given as goal

abbrev pub invariant-loop : goal.invariant-loop
invariant-loop l = after l.out.items (blocks_at l.most (l.blocks - l.counter) l.left l.last l.rest)
    ≡ after l.fn.out.items (blocks_at l.most l.blocks l.count l.fn.last l.bytes)
