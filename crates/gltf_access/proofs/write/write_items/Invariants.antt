use Rattle.std.proofs.Common.{length}
use Rattle.gltf_data.specs.Iter.{counted_items}
use Rattle.gltf_access.proofs.Written.{Written}
use Rattle.gltf_access.proofs.write.write_items.Given as goal

abbrev pub invariant-items : goal.invariant-items
invariant-items g l = Written g.row.N (counted_items l.initial.items).items l.initial.out
    (counted_items l.items).items l.at l.out

abbrev pub decreases-items : goal.decreases-items
decreases-items g l = length (counted_items l.items).items
