use Rattle.std.proofs.Common.{◌≡◌, length}
use Rattle.std.specs.Prelude.{nat_le}
use Rattle.std.specs.List.{list_any}
use Rattle.gltf_items.specs.ItemIter.{items_left}
use Rattle.gltf_inspect_values.proofs.stored.any_past.Given as goal

-- what holds of the indices that are left, holds of all
abbrev pub invariant-loop-item : goal.invariant-loop-item
invariant-loop-item g l =
    list_any (λ x. nat_le l.count (g.T.Number.number x)) (items_left l.items)
    ≡ list_any (λ x. nat_le l.count (g.T.Number.number x)) (items_left l.initial.items)

abbrev pub decreases-loop-item : goal.decreases-loop-item
decreases-loop-item g l = length (items_left l.items)
