use Rattle.std.proofs.Common.{length, ap, arith, append_assoc, append-nil}
use Rattle.gltf.proofs.listing.list_of.Goals as goal

pub push_reserved-requires : goal.push_reserved-requires
push_reserved-requires g c =
    let fewer = ap length c.in-Some.ensures in
    omega (arith, fewer, c.loop-item.invariant.room)

pub loop-item-smaller : goal.loop-item-smaller
loop-item-smaller g c =
    let fewer = ap length c.in-Some.ensures in
    omega (arith, fewer)

pub loop-item-preserved : goal.loop-item-preserved
loop-item-preserved g c =
    let fewer = ap length c.in-Some.ensures in
    record {
      all = rw (c.push_reserved.ensures.items, append_assoc, ← c.in-Some.ensures)
          c.loop-item.invariant.all;
      room = omega (
        arith,
        fewer,
        c.loop-item.invariant.room,
        c.push_reserved.ensures.len,
        c.push_reserved.ensures.capacity,
      );
    }

pub returns-clause-ok : goal.returns-clause-ok
returns-clause-ok g c = rw (c.in_default.ensures.0, append-nil) at c.loop-item.invariant.all

pub returns-clause-room : goal.returns-clause-room
returns-clause-room g c =
    let none = ap length c.in_default.ensures.0 in
    omega (arith, none, c.loop-item.invariant.room, c.loop-item.list.ok.0)
