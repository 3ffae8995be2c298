use Rattle.std.proofs.Common.{◌≡◌, None, length, map}
use Rattle.gltf_items.specs.ItemIter.{items_left}
use Rattle.gltf_inspect_values.specs.Falls.{falls}
use Rattle.gltf_inspect_values.specs.Stored.{is_not_above}
use Rattle.gltf_inspect_values.proofs.stored.any_not_above.Given as goal

-- what holds of the indices that are left, after the one before, holds of all
abbrev pub invariant-loop-item : goal.invariant-loop-item
invariant-loop-item g l =
    falls is_not_above l.before (map g.T.Number.number (items_left l.items))
    ≡ falls is_not_above None (map g.T.Number.number (items_left l.initial.items))

abbrev pub decreases-loop-item : goal.decreases-loop-item
decreases-loop-item g l = length (items_left l.items)
