use Rattle.std.proofs.Common.{◌≡◌, length, map}
use Rattle.std.specs.List.{list_any}
use Rattle.gltf_data.specs.Iter.{counted_items}
use Rattle.gltf_items.specs.Floats.{float_of}
use Rattle.gltf_inspect_values.specs.Times.{is_negative}
use Rattle.gltf_inspect_values.proofs.times.any_negative.Given as goal

-- what holds of the items that are left, holds of all
abbrev pub invariant-loop-item : goal.invariant-loop-item
invariant-loop-item l =
    list_any is_negative (map float_of (counted_items l.items).items)
    ≡ list_any is_negative (map float_of (counted_items l.initial.items).items)

abbrev pub decreases-loop-item : goal.decreases-loop-item
decreases-loop-item l = length (counted_items l.items).items
