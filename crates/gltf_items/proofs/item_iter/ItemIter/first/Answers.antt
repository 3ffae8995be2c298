use Rattle.std.proofs.Common.{◌*◌, ◌≡◌, Some, sym, ap, ◌∙◌, arith}
use Rattle.gltf_items.proofs.Lefts.{first_left, first_of_stride, no_first_left, left_behind}
use Rattle.gltf_items.proofs.Lefts.{left_past, left_none_behind}
use Rattle.gltf_items.proofs.item_iter.ItemIter.first.Goals as goal

pub returns-then-self-clause-gives : goal.returns-then-self-clause-gives
returns-then-self-clause-gives g c =
    ap Some (c.from_slice.ensures ∙ ap g.T.Item.value c.split_at.ensures.front)
    ∙ sym (first_of_stride c.args.self.now g.met.T.Item.positive g.met.T.Item.reads_front
    c.if-self.true)

pub returns-then-self-clause-leaves : goal.returns-then-self-clause-leaves
returns-then-self-clause-leaves g c =
    let once : 1 * c.args.self.now.stride ≡ c.args.self.now.stride = omega arith in
    left_behind c.args.self.now g.met.T.Item.positive 1 c.split_at.result.1.now
    (rw once c.split_at.ensures.back)

pub returns-then-size-self-clause-gives : goal.returns-then-size-self-clause-gives
returns-then-size-self-clause-gives g c =
    ap Some c.from_slice-item.ensures ∙ sym
    (first_left c.args.self.now g.met.T.Item.positive
    (omega (arith, c.size.ensures, c.if-size-self.true)))

pub returns-then-size-self-clause-leaves : goal.returns-then-size-self-clause-leaves
returns-then-size-self-clause-leaves g c =
    left_past c.args.self.now g.met.T.Item.positive 1 (omega (arith, c.if-self.false))

pub returns-else-size-self-clause-gives : goal.returns-else-size-self-clause-gives
returns-else-size-self-clause-gives g c =
    sym (no_first_left c.args.self.now g.met.T.Item.positive
    (omega (arith, c.size.ensures, c.if-size-self.false)))

pub returns-else-size-self-clause-leaves : goal.returns-else-size-self-clause-leaves
returns-else-size-self-clause-leaves g c =
    left_none_behind c.args.self.now g.met.T.Item.positive
    (omega (arith, c.size.ensures, c.if-size-self.false))
