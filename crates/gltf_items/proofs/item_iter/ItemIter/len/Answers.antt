use Rattle.std.proofs.Common.{sym}
use Rattle.gltf_items.proofs.Lefts.{left_none, left_some}
use Rattle.gltf_items.proofs.item_iter.ItemIter.len.Goals as goal

pub returns-then-bytes-size : goal.returns-then-bytes-size
returns-then-bytes-size g c = sym (left_none c.args.self.now g.met.T.Item.positive
    (rw (← c.size.ensures) c.if-bytes-size.true))

pub returns-else-bytes-size : goal.returns-else-bytes-size
returns-else-bytes-size g c =
    rw c.size-else-bytes-size.ensures (sym
    (left_some c.args.self.now g.met.T.Item.positive
    (rw (← c.size.ensures) c.if-bytes-size.false)))
