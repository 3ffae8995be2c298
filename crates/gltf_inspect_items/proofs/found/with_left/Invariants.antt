use Rattle.std.proofs.Common.{◌≡◌, length, map}
use Rattle.gltf_data.specs.Iter.{counted_items}
use Rattle.gltf_inspect_items.specs.Found.{with_indices}
use Rattle.gltf_inspect_items.proofs.found.with_left.Given as goal

-- what is left of the walk, after what was found so far, is the whole of it
abbrev pub invariant-loop-item : goal.invariant-loop-item
invariant-loop-item g l =
    with_indices g.T.Number.most l.found (map g.T.Number.number (counted_items l.items).items)
    ≡ with_indices g.T.Number.most l.initial.found
    (map g.T.Number.number (counted_items l.initial.items).items)

abbrev pub decreases-loop-item : goal.decreases-loop-item
decreases-loop-item g l = length (counted_items l.items).items
