use Rattle.std.proofs.Common.{◌≡◌, length}
use Rattle.gltf_data.specs.Iter.{counted_items}
use Rattle.gltf_inspect_items.specs.Indices.{any_degenerate}
use Rattle.gltf_inspect_items.proofs.indices.any_degenerate.Given as goal

-- what holds of the items that are left, holds of all
abbrev pub invariant-loop-first : goal.invariant-loop-first
invariant-loop-first g l =
    any_degenerate g.T.Number.number (counted_items l.items).items
    ≡ any_degenerate g.T.Number.number (counted_items l.initial.items).items

abbrev pub decreases-loop-first : goal.decreases-loop-first
decreases-loop-first g l = length (counted_items l.items).items
