use Rattle.std.proofs.Common.{rules, ◌∙◌}
use Rattle.std.specs.Option.{option_map}
use Rattle.gltf_items.specs.ItemIter.{items_left}
use Rattle.gltf_items.specs.SparseIndicesIter.{indices_left}
use Rattle.gltf_data.proofs.Accessors.{no_base, no_indices, no_values, all_read, indices_in}
use Rattle.gltf_data.proofs.Accessors.{values_in, length-indices}
use Rattle.gltf_data.proofs.items.sparse_items.Goals as goal

pub returns-in_err-base-clause-items : goal.returns-in_err-base-clause-items
returns-in_err-base-clause-items g c =
    let a = c.args.accessor.inner in
    no_base g.T.Item a.document.now a.json.now c.args.sparse.inner.json.now _ c.base.ensures
    c.in_err-base.field-0.0 (search rules) (search rules)

pub returns-in_err-indices-clause-items : goal.returns-in_err-indices-clause-items
returns-in_err-indices-clause-items g c =
    let s = c.args.sparse.inner.json.now in
    let r = c.args.accessor.inner.document.now in
    no_indices g.T.Item r c.args.accessor.inner.json.now s _ c.base.ensures
    (indices_in s c.args.sparse.inner.document.now r c.requires.one_document c.indices.ensures)
    (option_map items_left c.in_ok-base.base) (search rules) c.in_err-indices.field-0.0
    (search rules) (search rules)

pub returns-in_err-values-clause-items : goal.returns-in_err-values-clause-items
returns-in_err-values-clause-items g c =
    let s = c.args.sparse.inner.json.now in
    let r = c.args.accessor.inner.document.now in
    no_values g.T.Item r c.args.accessor.inner.json.now s _ c.base.ensures
    (indices_in s c.args.sparse.inner.document.now r c.requires.one_document c.indices.ensures)
    (option_map items_left c.in_ok-base.base) (search rules)
    (values_in g.T.Item.size g.T.Item.value s c.args.sparse.inner.document.now r
    c.requires.one_document c.values.ensures) (indices_left c.in_ok-indices.indices) (search rules)
    c.in_err-values.field-0.0 (search rules) (search rules)

pub returns-clause-items : goal.returns-clause-items
returns-clause-items g c =
    let s = c.args.sparse.inner.json.now in
    let r = c.args.accessor.inner.document.now in
    all_read g.T.Item r c.args.accessor.inner.json.now s _ c.base.ensures
    (indices_in s c.args.sparse.inner.document.now r c.requires.one_document c.indices.ensures)
    (option_map items_left c.in_ok-base.base) (search rules)
    (values_in g.T.Item.size g.T.Item.value s c.args.sparse.inner.document.now r
    c.requires.one_document c.values.ensures) (indices_left c.in_ok-indices.indices) (search rules)
    (items_left c.in_ok-values.values) (search rules) (search rules)

pub returns-clause-fresh : goal.returns-clause-fresh
returns-clause-fresh g c = record {
  stored =
      c.with_base_count.ensures.fresh.stored
      ∙ length-indices c.args.sparse.inner.json.now c.indices.ensures
      (indices_left c.in_ok-indices.indices) (search rules);
  index_reads = c.with_base_count.ensures.fresh.index_reads;
  base_reads = c.with_base_count.ensures.fresh.base_reads;
  value_reads = c.with_base_count.ensures.fresh.value_reads;
}
