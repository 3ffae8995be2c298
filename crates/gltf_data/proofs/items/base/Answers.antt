use Rattle.std.proofs.Common.{rules}
use Rattle.gltf_data.proofs.Wholes.{base_whole, in_document, base_part_is}
use Rattle.gltf_data.specs.Parts.{base_part}
use Rattle.gltf_data.proofs.items.base.Goals as goal

pub returns-in_err-items : goal.returns-in_err-items
returns-in_err-items g c =
    let r = c.args.accessor.inner.document.now in
    let a = c.args.accessor.inner.json.now in
    let at = base_part_is g.T.Item.size r a
    c.in-Some.view c.offset.result c.count-count.result (search rules) (search rules)
    (search rules) in
    base_whole g.T.Item.value (base_part g.T.Item.size r a)
    a.count _ at.0 (search rules)
    (in_document c.in-Some.view.inner.document.now r at.1 c.items.ensures)

pub returns : goal.returns
returns g c =
    let r = c.args.accessor.inner.document.now in
    let a = c.args.accessor.inner.json.now in
    let at = base_part_is g.T.Item.size r a
    c.in-Some.view c.offset.result c.count-count.result (search rules) (search rules)
    (search rules) in
    base_whole g.T.Item.value (base_part g.T.Item.size r a)
    a.count _ at.0 (search rules)
    (in_document c.in-Some.view.inner.document.now r at.1 c.items.ensures)
