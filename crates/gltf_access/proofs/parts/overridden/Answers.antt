use Rattle.std.proofs.Common.{rules, sym, ap, subst, ◌∙◌}
use Rattle.std.specs.Prelude.{Some, None}
use Rattle.std.specs.Option.{option_map}
use Rattle.gltf_items.specs.ItemIter.{items_left}
use Rattle.gltf_items.specs.SparseIndicesIter.{indices_left}
use Rattle.gltf_items.specs.Sparse.{sparse}
use Rattle.gltf_access.specs.Taken.{TakesParts}
use Rattle.gltf_access.proofs.Taken.{no_base, no_indices, no_values, none_taken, all_taken}
use Rattle.gltf_access.proofs.Taken.{indices_in, values_in}
use Rattle.gltf_access.proofs.parts.overridden.Goals as goal

pub returns-in_err-base : goal.returns-in_err-base
returns-in_err-base g c =
    let a = c.args.accessor.inner in
    none_taken c.args.apart g.T.Item a.document.now a.json.now c.args.sparse.inner.json.now _ (search rules)
    (no_base c.args.apart g.T.Item a.document.now a.json.now c.args.sparse.inner.json.now c.in_err-base.ensures)

pub returns-in_err-indices : goal.returns-in_err-indices
returns-in_err-indices g c =
    let a = c.args.accessor.inner in
    let s = c.args.sparse.inner in
    none_taken c.args.apart g.T.Item a.document.now a.json.now c.args.sparse.inner.json.now _ (search rules)
    (no_indices c.args.apart g.T.Item a.document.now a.json.now s.json.now
    (option_map items_left c.in_ok-base.base) c.in_ok-base.ensures
    (indices_in s.document.now a.document.now c.requires.one_document s.json.now None
    c.in_err-indices.ensures))

pub returns-in_err-values : goal.returns-in_err-values
returns-in_err-values g c =
    let a = c.args.accessor.inner in
    let s = c.args.sparse.inner in
    none_taken c.args.apart g.T.Item a.document.now a.json.now c.args.sparse.inner.json.now _ (search rules)
    (no_values c.args.apart g.T.Item a.document.now a.json.now s.json.now
    (option_map items_left c.in_ok-base.base) c.in_ok-base.ensures
    (indices_left c.in_ok-indices.indices)
    (indices_in s.document.now a.document.now c.requires.one_document s.json.now
    (Some (indices_left c.in_ok-indices.indices)) c.in_ok-indices.ensures)
    (values_in g.T.Item.value c.args.apart g.T.Item.size s.document.now a.document.now c.requires.one_document
    s.json.now None c.in_err-values.ensures))

pub returns : goal.returns
returns g c =
    let a = c.args.accessor.inner in
    let s = c.args.sparse.inner in
    let bs = option_map items_left c.in_ok-base.base in
    let is = indices_left c.in_ok-indices.indices in
    let vs = items_left c.in_ok-values.values in
    subst (λ xs. TakesParts (λ b o. goal.F-post g c.args.get_buffer_data.now b o) c.args.apart g.T.Item
    a.document.now a.json.now (Some s.json.now) (Some xs))
    (sym (c.with_base_count.ensures.items
    ∙ ap (λ n. sparse g.T.Item.zero_item bs n is vs) c.count-count.ensures))
    (all_taken c.args.apart g.T.Item a.document.now a.json.now s.json.now bs c.in_ok-base.ensures is
    (indices_in s.document.now a.document.now c.requires.one_document s.json.now (Some is)
    c.in_ok-indices.ensures) vs
    (values_in g.T.Item.value c.args.apart g.T.Item.size s.document.now a.document.now c.requires.one_document
    s.json.now (Some vs) c.in_ok-values.ensures))
