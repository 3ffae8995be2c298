use Rattle.std.proofs.Common.{rules}
use Rattle.std.specs.Option.{option_map}
use Rattle.gltf_items.specs.ItemIter.{items_left}
use Rattle.gltf_access.proofs.Taken.{read_plain, read_sparse, no_sparse, sparse_is}
use Rattle.gltf_access.proofs.parts.read.Goals as goal

pub returns-in_err-plain-in-None : goal.returns-in_err-plain-in-None
returns-in_err-plain-in-None g c =
    let r = c.args.accessor.inner.document.now in
    let a = c.args.accessor.inner.json.now in
    read_plain c.args.apart g.T.Item r a (option_map items_left c.plain.result) _
    (no_sparse r a.sparse (search rules)) (search rules) c.plain.ensures

pub returns-in_ok-plain-in-None : goal.returns-in_ok-plain-in-None
returns-in_ok-plain-in-None g c =
    let r = c.args.accessor.inner.document.now in
    let a = c.args.accessor.inner.json.now in
    read_plain c.args.apart g.T.Item r a (option_map items_left c.plain.result) _
    (no_sparse r a.sparse (search rules)) (search rules) c.plain.ensures

pub returns-in_err-overridden-in-Some : goal.returns-in_err-overridden-in-Some
returns-in_err-overridden-in-Some g c =
    let r = c.args.accessor.inner.document.now in
    let a = c.args.accessor.inner.json.now in
    read_sparse c.args.apart g.T.Item r a (option_map (λ it. it.items) c.overridden.result) _
    c.in-Some.sparse.inner.json.now (sparse_is r a.sparse c.in-Some.sparse (search rules)).0
    (search rules) c.overridden.ensures

pub returns-in_ok-overridden-in-Some : goal.returns-in_ok-overridden-in-Some
returns-in_ok-overridden-in-Some g c =
    let r = c.args.accessor.inner.document.now in
    let a = c.args.accessor.inner.json.now in
    read_sparse c.args.apart g.T.Item r a (option_map (λ it. it.items) c.overridden.result) _
    c.in-Some.sparse.inner.json.now (sparse_is r a.sparse c.in-Some.sparse (search rules)).0
    (search rules) c.overridden.ensures
