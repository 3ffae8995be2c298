use Rattle.std.proofs.Common.{◌≡◌, None, length, map}
use Rattle.gltf_data.specs.Iter.{counted_items}
use Rattle.gltf_items.specs.Floats.{float_of}
use Rattle.gltf_inspect_values.specs.Falls.{falls}
use Rattle.gltf_inspect_values.specs.Times.{is_not_later}
use Rattle.gltf_inspect_values.proofs.times.any_not_later.Given as goal

-- what holds of the items that are left, after the one before, holds of all
abbrev pub invariant-loop-item : goal.invariant-loop-item
invariant-loop-item l =
    falls is_not_later l.before (map float_of (counted_items l.items).items)
    ≡ falls is_not_later None (map float_of (counted_items l.initial.items).items)

abbrev pub decreases-loop-item : goal.decreases-loop-item
decreases-loop-item l = length (counted_items l.items).items
