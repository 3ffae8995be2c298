use Rattle.std.proofs.Common.{rules}
use Rattle.gltf_access.proofs.Taken.{indices_taken}
use Rattle.gltf_access.proofs.parts.indices.Goals as goal

pub returns : goal.returns
returns g c =
    let s = c.args.sparse.inner in
    let v = c.view.result.inner in
    indices_taken s.document.now s.json.now v.json.now v.document.now c.offset.result
    c.count.result c.index_type.result _ (search rules) (search rules) (search rules)
    (search rules) (search rules) c.indices_at.ensures
