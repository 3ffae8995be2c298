use Rattle.std.proofs.Common.{◌≡◌, ◌++◌, length, replicate}
use Rattle.gltf_data.specs.Iter.{counted_items}
use Rattle.gltf_inspect_items.specs.Members.{one}
use Rattle.gltf_inspect_values.specs.Components.{number_at}
use Rattle.gltf_inspect_values.specs.Summaries.{summary}
use Rattle.gltf_inspect_values.proofs.After.{after}
use Rattle.gltf_inspect_values.proofs.walk.summary_left.Given as goal

-- what is left of the walk, after what was found so far, is the whole of it
abbrev pub invariant-loop-item : goal.invariant-loop-item
invariant-loop-item g l =
    after (number_at g.T.Item.size g.T.Item.value g.T.Component.number) g.T.Component.any_infinite
    l.found (counted_items l.items).items
    ≡ summary (number_at g.T.Item.size g.T.Item.value g.T.Component.number)
    g.T.Component.any_infinite
    (one (replicate g.row.N 0) l.fn.zero ++ (counted_items l.initial.items).items)

abbrev pub decreases-loop-item : goal.decreases-loop-item
decreases-loop-item g l = length (counted_items l.items).items
