use Rattle.core.proofs.iter.SoFar.{more_by}
use Rattle.std.proofs.Common.{◌+◌, length, ap}
use Rattle.std.proofs.Common.{arith}
use Rattle.std.specs.Iterator.{YieldsFirst}
use Rattle.gltf_data.specs.Iter.{counted_items}
use Rattle.gltf_access.proofs.Written.{Written, start, room, next, done}
use Rattle.gltf_access.proofs.write.write_items.Goals as goal

pub items-init : goal.items-init
items-init g c = start _ _ _ c.requires.room

pub write_item-requires : goal.write_item-requires
write_item-requires g c = (
  omega (arith, c.requires.small),
  (
    c.requires.small,
    room _ _ _ _ _ _ _ _ c.in-Some.ensures.steps c.items.invariant,
  ),
)

pub overflow_add-at : goal.overflow_add-at
overflow_add-at g c = omega (arith, c.write_item.ensures.fits)

pub items-smaller : goal.items-smaller
items-smaller g c = omega (arith, ap (λ z. length z) c.in-Some.ensures.steps)

pub items-preserved-whole : goal.items-preserved-whole
items-preserved-whole g c =
    let left : Written g.row.N (counted_items c.args.items).items c.args.out.now
    (counted_items c.next.new.self).items (c.items.at + g.row.N) c.write_item.new.out =
    rw c.write_item.ensures.written (next _ _ _ _ _ _ _ _ c.in-Some.ensures.steps
    c.items.invariant c.write_item.ensures.len) in (
      (tt, tt),
      (
        _,
        (
          more_by (YieldsFirst (λ s. (counted_items s).items)) {s = c.args.items}
              {t = c.items.items} (c.items.yielded, c.items.yielded_by) c.next.result
              c.next.new.self
              c.next.ensures.steps c.in-Some.is,
          left,
        ),
      ),
    )

pub returns : goal.returns
returns g c = done _ _ _ _ c.items.at c.items.out c.in_default.ensures.steps.0 c.items.invariant
