use Rattle.gltf_access.proofs.Views.{absent, accessor_lent}
use Rattle.gltf_access.proofs.raw.accessor_bytes.Goals as goal

pub returns : goal.returns
returns g c =
    let a = c.args.accessor.inner in
    accessor_lent a.document.now a.json.now c.in_ok-view.field-0 c.offset.result c.count.result
    c.size.result _
    (absent a.document.now a.json.now.sparse c.sparse.result c.sparse.ensures
    (cc (c.is_some.ensures, c.if-is_some.false)))
    c.in_ok-view.ensures c.offset.ensures c.count.ensures c.size.ensures.gives
    c.part_bytes.ensures
