use Rattle.std.proofs.Common.{◌∙◌, [], replicate}
use Rattle.gltf_inspect_values.specs.Components.{number_at}
use Rattle.gltf_inspect_values.proofs.After.{started}
use Rattle.gltf_inspect_values.proofs.walk.first_alone.Goals as goal

pub returns : goal.returns
returns g c =
    let number = number_at g.T.Item.size g.T.Item.value g.T.Component.number in
    c.first.ensures
    ∙ started number g.T.Component.any_infinite (replicate g.row.N 0) c.args.zero []
