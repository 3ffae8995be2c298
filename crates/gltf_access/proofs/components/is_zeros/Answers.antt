use Rattle.std.proofs.Common.{◌∙◌}
use Rattle.gltf_access.proofs.Taken.{viewed_not, unviewed, none_of}
use Rattle.gltf_access.proofs.components.is_zeros.Goals as goal

pub returns-then-is_some : goal.returns-then-is_some
returns-then-is_some c =
    let a = c.args.accessor.inner in
    viewed_not a.document.now a.json.now c.view.result c.view.ensures
    (cc (c.is_some.ensures, c.if-is_some.true))

pub returns : goal.returns
returns c =
    let a = c.args.accessor.inner in
    none_of c.sparse.result c.is_none.result c.is_none.ensures
    ∙ unviewed a.document.now a.json.now c.view.result c.sparse.result c.view.ensures
    c.sparse.ensures (cc (c.is_some.ensures, c.if-is_some.false))
