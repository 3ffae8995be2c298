use Rattle.std.proofs.Common.{◌+◌, ◌-◌, ◌≤◌, Some, length, sym, ap, ◌∙◌, arith}
use Rattle.gltf_items.specs.Stored.{StoredLists}
use Rattle.gltf_items.specs.Sparse.{sparse_item, digits}
use Rattle.gltf_items.proofs.Overridden.{slice_get-left, left_none, left_past, left_all}
use Rattle.gltf_items.proofs.Fronts.{front_rises, length-front}
use Rattle.gltf_items.proofs.Cursors.{digits_rises}
use Rattle.gltf_items.proofs.sparse.SparseIter.nth.Goals as goal

pub seek-cursor-requires-clause-rises : goal.seek-cursor-requires-clause-rises
seek-cursor-requires-clause-rises g c =
    rw c.self.invariant.front_is (front_rises c.self.inside.stored.indices
    c.self.inside.stored.values)

pub returns-then-n-self-clause-gives : goal.returns-then-n-self-clause-gives
returns-then-n-self-clause-gives g c =
    let s = c.self.inside in
    rw (← c.self.view_is)
    (ap Some (c.item_at-item.ensures.gives
    ∙ ap (λ (t : StoredLists g.row.T.Denot).
    sparse_item g.T.Item.zero_item t.base t.indices t.values (s.position + c.args.n))
    c.seek-cursor.ensures.counts)
    ∙ sym (slice_get-left g.T.Item.zero_item s.stored.base s.stored.indices s.stored.values s.end
    s.position c.args.n (s.position + c.args.n) (omega arith)
    (omega (arith, c.self.invariant.end_is))))

pub returns-then-n-self-clause-costs : goal.returns-then-n-self-clause-costs
returns-then-n-self-clause-costs g c =
    let s = c.self.inside in
    let sought = c.seek-cursor.ensures.counts in
    let read = c.item_at-item.ensures.same in
    let less : digits (s.front_len - s.cursor) ≤ digits (length s.stored.indices) =
    digits_rises (s.front_len - s.cursor) (length s.stored.indices)
    (omega (
      arith,
      c.self.invariant.front_is,
      (length-front s.stored.indices s.stored.values).0,
    )) in
    rw (← c.self.view_is) record {
      stored = ap (λ (t : StoredLists g.row.T.Denot). length t.indices) (read)
          ∙ ap (λ (t : StoredLists g.row.T.Denot). length t.indices) sought;
      indices = omega (arith, less, c.item_at-item.ensures.indices, c.seek-cursor.ensures.costs);
      base = omega (
        arith,
        c.item_at-item.ensures.base,
        ap (λ (t : StoredLists g.row.T.Denot). t.base_reads) sought,
      );
      values = omega (
        arith,
        c.item_at-item.ensures.values,
        ap (λ (t : StoredLists g.row.T.Denot). t.value_reads) sought,
      );
      indices_kept = omega (arith, c.item_at-item.ensures.kept, c.seek-cursor.ensures.kept);
      base_kept = omega (
        arith,
        c.item_at-item.ensures.kept,
        ap (λ (t : StoredLists g.row.T.Denot). t.base_reads) sought,
      );
      values_kept = omega (
        arith,
        c.item_at-item.ensures.kept,
        ap (λ (t : StoredLists g.row.T.Denot). t.value_reads) sought,
      );
    }

pub returns-else-n-self-clause-gives : goal.returns-else-n-self-clause-gives
returns-else-n-self-clause-gives g c =
    let s = c.self.inside in
    rw (← c.self.view_is) (sym (left_none g.T.Item.zero_item s.stored.base s.stored.indices
    s.stored.values s.end s.position c.args.n (omega (arith, c.self.invariant.end_is))))

pub returns-else-n-self-clause-leaves : goal.returns-else-n-self-clause-leaves
returns-else-n-self-clause-leaves g c =
    let s = c.self.inside in
    rw (← c.self.view_is)
    (left_all g.T.Item.zero_item s.stored.base s.stored.indices s.stored.values s.end s.end
    (omega (arith, c.self.invariant.end_is))
    ∙ sym (left_past g.T.Item.zero_item s.stored.base s.stored.indices s.stored.values s.end
    s.position (c.args.n + 1) (omega (arith, c.self.invariant.end_is))))
