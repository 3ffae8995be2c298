use Rattle.std.proofs.Common.{ℕ, ap, ◌∙◌}
use Rattle.gltf_items.specs.Stored.{StoredLists}
use Rattle.gltf_items.specs.Sparse.{sparse}
use Rattle.gltf_items.proofs.Overridden.{sparse_total}
use Rattle.gltf_items.proofs.sparse.SparseIter.with_base_count.Goals as goal

pub returns-clause-items : goal.returns-clause-items
returns-clause-items g c =
    let made = c.new-stored.result in
    ap (λ (t : StoredLists g.row.T.Denot).
    sparse g.T.Item.zero_item t.base c.total-end.result t.indices t.values)
    c.front_len-front_len.ensures.counts
    ∙ ap (λ (n : ℕ). sparse g.T.Item.zero_item made.base n made.indices made.values)
    c.total-end.ensures
    ∙ sparse_total g.T.Item.zero_item made.base c.args.base_count made.indices made.values
    ∙ ap (λ (t : StoredLists g.row.T.Denot).
    sparse g.T.Item.zero_item t.base c.args.base_count t.indices t.values) c.new-stored.ensures
