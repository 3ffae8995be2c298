use Rattle.std.proofs.Common.{rules}
use Rattle.gltf_access.specs.Components.{values_at}
use Rattle.gltf_access.proofs.Taken.{moved, value_part_is}
use Rattle.gltf_access.proofs.parts.values.Goals as goal

pub returns : goal.returns
returns g c =
    let r = c.args.sparse.inner.document.now in
    let s = c.args.sparse.inner.json.now in
    moved g.T.Item.value c.view.result.inner.document.now r (search rules)
    (values_at c.args.apart g.T.Item.size r s) _
    (value_part_is c.args.apart g.T.Item.size r s c.view.result.inner.json.now c.offset.result c.count.result
    (search rules) (search rules) (search rules))
    _ c.spaced_items_at.ensures
