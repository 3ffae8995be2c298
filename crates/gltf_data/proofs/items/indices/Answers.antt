use Rattle.std.proofs.Common.{rules}
use Rattle.gltf_data.proofs.Wholes.{indices_whole, in_document}
use Rattle.gltf_data.proofs.items.indices.Goals as goal

pub returns : goal.returns
returns g c =
    let s = c.args.sparse.inner in
    let v = c.view.result.inner in
    indices_whole s.json.now v.json.now c.offset.result c.count.result c.index_type.result
    (search rules) (search rules) (search rules) (search rules)
    (in_document v.document.now s.document.now (search rules) c.indices_at.ensures)
