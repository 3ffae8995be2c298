use Rattle.std.proofs.Common.{◌+◌, Some, drop, sym, ap, ◌∙◌, arith}
use Rattle.std.proofs.lemmas.List.{drop-drop}
use Rattle.gltf_items.specs.Stored.{StoredLists}
use Rattle.gltf_items.specs.Sparse.{sparse}
use Rattle.gltf_items.proofs.Overridden.{slice_get-left, left_none, left_past, left_all}
use Rattle.gltf_items.proofs.sparse.SparseIter.first.Goals as goal

pub returns-then-self-clause-gives : goal.returns-then-self-clause-gives
returns-then-self-clause-gives g c =
    let s = c.self.inside in
    rw (← c.self.view_is)
    (ap Some c.item_at-item.ensures.gives
    ∙ sym (slice_get-left g.T.Item.zero_item s.stored.base s.stored.indices s.stored.values s.end
    s.position 0 s.position (omega arith) (omega (arith, c.self.invariant.end_is))))

pub returns-then-self-clause-leaves : goal.returns-then-self-clause-leaves
returns-then-self-clause-leaves g c =
    let s = c.self.inside in
    rw (← c.self.view_is)
    (ap (λ (t : StoredLists g.row.T.Denot). drop (s.position + 1)
    (sparse g.T.Item.zero_item t.base s.end t.indices t.values)) c.item_at-item.ensures.same
    ∙ sym (drop-drop 1 s.position (sparse g.T.Item.zero_item s.stored.base s.end s.stored.indices
    s.stored.values)))

pub returns-else-self-clause-gives : goal.returns-else-self-clause-gives
returns-else-self-clause-gives g c =
    let s = c.self.inside in
    rw (← c.self.view_is) (sym (left_none g.T.Item.zero_item s.stored.base s.stored.indices
    s.stored.values s.end s.position 0 (omega (arith, c.self.invariant.end_is))))

pub returns-else-self-clause-leaves : goal.returns-else-self-clause-leaves
returns-else-self-clause-leaves g c =
    let s = c.self.inside in
    rw (← c.self.view_is)
    (left_all g.T.Item.zero_item s.stored.base s.stored.indices s.stored.values s.end s.position
    (omega (arith, c.self.invariant.end_is))
    ∙ sym (left_past g.T.Item.zero_item s.stored.base s.stored.indices s.stored.values s.end
    s.position 1 (omega (arith, c.self.invariant.end_is))))
