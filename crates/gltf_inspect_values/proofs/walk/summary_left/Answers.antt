use Rattle.std.proofs.Common.{ap, ◌∙◌, replicate}
use Rattle.gltf_data.specs.Iter.{counted_items}
use Rattle.gltf_inspect_values.specs.Components.{number_at}
use Rattle.gltf_inspect_values.proofs.After.{after, started}
use Rattle.gltf_inspect_values.proofs.walk.summary_left.Goals as goal

pub loop-item-init : goal.loop-item-init
loop-item-init g c =
    let number = number_at g.T.Item.size g.T.Item.value g.T.Component.number in
    let items = (counted_items c.args.items.now).items in
    ap (λ found. after number g.T.Component.any_infinite found items) c.first-found.ensures
    ∙ started number g.T.Component.any_infinite (replicate g.row.N 0) c.args.zero items
