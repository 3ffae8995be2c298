use Rattle.std.proofs.Common.{rules}
use Rattle.gltf_data.proofs.Wholes.{whole, in_document, value_part_is}
use Rattle.gltf_data.specs.Parts.{value_part}
use Rattle.gltf_data.specs.declared.unreadable.Part.TheVariants.{SparseValues}
use Rattle.gltf_data.proofs.items.values.Goals as goal

pub returns : goal.returns
returns g c =
    let r = c.args.sparse.inner.document.now in
    let s = c.args.sparse.inner.json.now in
    whole g.T.Item.value SparseValues (value_part g.T.Item.size r s)
    (value_part_is g.T.Item.size r s c.view.result.inner.json.now c.offset.result c.count.result
    (search rules) (search rules) (search rules))
    (in_document c.view.result.inner.document.now r (search rules) c.items.ensures)
