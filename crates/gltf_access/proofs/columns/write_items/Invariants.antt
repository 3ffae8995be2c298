use Rattle.std.proofs.Common.{length, map}
use Rattle.gltf_data.specs.Iter.{counted_items}
use Rattle.gltf_access.specs.Components.{components}
use Rattle.gltf_access.proofs.Written.{Written}
use Rattle.gltf_access.proofs.columns.write_items.Given as goal

abbrev pub invariant-items : goal.invariant-items
invariant-items g l =
    Written l.size (map (components l.layout) (counted_items l.initial.items).items) l.initial.out
    (map (components l.layout) (counted_items l.items).items) l.at l.out

abbrev pub decreases-items : goal.decreases-items
decreases-items g l = length (counted_items l.items).items
