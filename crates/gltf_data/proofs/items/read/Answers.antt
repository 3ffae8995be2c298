use Rattle.std.proofs.Common.{rules}
use Rattle.std.specs.Prelude.{None, Some}
use Rattle.std.specs.Result.{result_map_both}
use Rattle.gltf_items.specs.ItemIter.{items_left}
use Rattle.gltf_data.proofs.Accessors.{other_size, right_size, plain_read, no_sparse, sparse_is}
use Rattle.gltf_data.proofs.items.read.Goals as goal

pub returns-then-size-clause-outcome : goal.returns-then-size-clause-outcome
returns-then-size-clause-outcome g c =
    let a = c.args.accessor.inner in
    other_size g.T.Item a.document.now a.json.now _ (search rules) (search rules)

pub returns-in_err-standard-in-None-clause-outcome :
    goal.returns-in_err-standard-in-None-clause-outcome
returns-in_err-standard-in-None-clause-outcome g c =
    let t = g.T.Item in
    let r = c.args.accessor.inner.document.now in
    let a = c.args.accessor.inner.json.now in
    right_size t r a _ {s = None}
    {out = result_map_both items_left (λ e. e) c.standard.result} (search rules)
    (no_sparse r a.sparse (search rules)) (plain_read t r a c.standard.ensures) (search rules)

pub returns-in_err-sparse_items-in-Some-clause-outcome :
    goal.returns-in_err-sparse_items-in-Some-clause-outcome
returns-in_err-sparse_items-in-Some-clause-outcome g c =
    let t = g.T.Item in
    let r = c.args.accessor.inner.document.now in
    let a = c.args.accessor.inner.json.now in
    right_size t r a _ {s = Some c.in-Some.sparse.inner.json.now}
    {out = result_map_both (λ it. it.items) (λ e. e) c.sparse_items.result} (search rules)
    (sparse_is r a.sparse c.in-Some.sparse (search rules)) c.sparse_items.ensures.items
    (search rules)

pub returns-in_ok-standard-in-None-clause-outcome :
    goal.returns-in_ok-standard-in-None-clause-outcome
returns-in_ok-standard-in-None-clause-outcome g c =
    let t = g.T.Item in
    let r = c.args.accessor.inner.document.now in
    let a = c.args.accessor.inner.json.now in
    right_size t r a _ {s = None}
    {out = result_map_both items_left (λ e. e) c.standard.result} (search rules)
    (no_sparse r a.sparse (search rules)) (plain_read t r a c.standard.ensures) (search rules)

pub returns-in_ok-sparse_items-in-Some-clause-outcome :
    goal.returns-in_ok-sparse_items-in-Some-clause-outcome
returns-in_ok-sparse_items-in-Some-clause-outcome g c =
    let t = g.T.Item in
    let r = c.args.accessor.inner.document.now in
    let a = c.args.accessor.inner.json.now in
    right_size t r a _ {s = Some c.in-Some.sparse.inner.json.now}
    {out = result_map_both (λ it. it.items) (λ e. e) c.sparse_items.result} (search rules)
    (sparse_is r a.sparse c.in-Some.sparse (search rules)) c.sparse_items.ensures.items
    (search rules)
