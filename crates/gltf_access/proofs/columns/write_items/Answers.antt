use Rattle.core.proofs.iter.SoFar.{more_by}
use Rattle.std.proofs.Common.{◌+◌, length, map, ap}
use Rattle.std.proofs.Common.{arith}
use Rattle.std.specs.Iterator.{YieldsFirst}
use Rattle.gltf_data.specs.Iter.{counted_items}
use Rattle.gltf_access.specs.Components.{components}
use Rattle.gltf_access.proofs.Written.{Written, start, room, next, done}
use Rattle.gltf_access.proofs.columns.write_items.Goals as goal

pub items-init : goal.items-init
items-init g c = start _ _ _ c.requires.room

pub write_item-requires : goal.write_item-requires
write_item-requires g c = (
  omega (arith, c.requires.small),
  (
    c.requires.small,
    (
      c.requires.ends,
      (
        c.requires.bare,
        room _ _ _ _ _ _ _ _ (ap (map (components c.args.layout)) c.in-Some.ensures.steps)
            c.items.invariant,
      ),
    ),
  ),
)

pub overflow_add-at : goal.overflow_add-at
overflow_add-at g c = omega (arith, c.write_item.ensures.fits)

pub items-smaller : goal.items-smaller
items-smaller g c = omega (arith, ap (λ z. length z) c.in-Some.ensures.steps)

pub items-preserved-whole : goal.items-preserved-whole
items-preserved-whole g c =
    let f = components c.args.layout in
    let left : Written c.args.size (map f (counted_items c.args.items).items) c.args.out.now
    (map f (counted_items c.next.new.self).items) (c.items.at + c.args.size)
    c.write_item.new.out =
    rw c.write_item.ensures.written (next _ _ _ _ _ _ _ _ (ap (map f) c.in-Some.ensures.steps)
    c.items.invariant c.write_item.ensures.len) in (
      (tt, tt),
      (
        _,
        (
          more_by (YieldsFirst (λ s. (counted_items s).items)) {s = c.args.items}
              {t = c.items.items} (c.items.yielded, c.items.yielded_by) c.next.result
              c.next.new.self
              c.next.ensures.steps c.in-Some.is,
          left,
        ),
      ),
    )

pub returns : goal.returns
returns g c =
    done _ _ _ _ c.items.at c.items.out
    (ap (map (components c.args.layout)) c.in_default.ensures.steps.0) c.items.invariant
