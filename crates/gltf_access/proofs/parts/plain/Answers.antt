use Rattle.std.proofs.Common.{rules}
use Rattle.gltf_access.specs.Components.{base_at}
use Rattle.gltf_access.proofs.Taken.{moved, base_part_is}
use Rattle.gltf_access.proofs.parts.plain.Goals as goal

pub returns : goal.returns
returns g c =
    let r = c.args.accessor.inner.document.now in
    let a = c.args.accessor.inner.json.now in
    let at = base_part_is c.args.apart g.T.Item.size r a
    c.in-Some.view c.offset-offset.result c.count-count.result (search rules) (search rules)
    (search rules) in
    moved g.T.Item.value c.in-Some.view.inner.document.now r at.1
    (base_at c.args.apart g.T.Item.size r a) _ at.0 _ c.spaced_items_at.ensures
