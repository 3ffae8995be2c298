use Rattle.std.proofs.Common.{rules}
use Rattle.gltf_data.proofs.Wholes.{whole, in_document, base_part_is}
use Rattle.gltf_data.specs.Parts.{base_part}
use Rattle.gltf_data.specs.declared.unreadable.Part.TheVariants.{Items}
use Rattle.gltf_data.proofs.items.standard.Goals as goal

pub returns : goal.returns
returns g c =
    let r = c.args.accessor.inner.document.now in
    let a = c.args.accessor.inner.json.now in
    let at = base_part_is g.T.Item.size r a
    c.in-Some.view c.offset-offset.result c.count-count.result (search rules) (search rules)
    (search rules) in
    whole g.T.Item.value Items (base_part g.T.Item.size r a) at.0
    (in_document c.in-Some.view.inner.document.now r at.1 c.items.ensures)
