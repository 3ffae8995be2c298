use Rattle.std.proofs.Common.{◌≡◌, ◌+◌, ◌++◌, length, vec_len, vec_capacity}
use Rattle.gltf.proofs.listing.list_of.Given as goal

-- what was pushed and what is left are all items, and there is room for just these
abbrev pub invariant-loop-item : goal.invariant-loop-item
invariant-loop-item g l = record {
  all : l.list.items ++ g.C.Counted.items_left l.items ≡ g.C.Counted.items_left l.initial.items;
  room : vec_len l.list + length (g.C.Counted.items_left l.items) ≡ vec_capacity l.list;
}

abbrev pub decreases-loop-item : goal.decreases-loop-item
decreases-loop-item g l = length (g.C.Counted.items_left l.items)
