use Rattle.std.proofs.Common.{◌≡◌, ◌≤◌, ◌+◌, length, map}
use Rattle.gltf_items.specs.ItemIter.{items_left}
use Rattle.gltf_inspect_items.specs.Members.{placed}
use Rattle.gltf_inspect_items.proofs.members.placed.Given as goal

-- those so far, and those of the indices that are left, are all; there are no more of them than
-- numbers below the least that may follow
abbrev pub invariant-loop-item : goal.invariant-loop-item
invariant-loop-item g l = record {
  all : l.placed + placed l.least l.count (map g.T.Number.number (items_left l.indices))
      ≡ placed 0 l.count (map g.T.Number.number (items_left l.initial.indices));
  few : l.placed ≤ l.least;
  within : l.least ≤ l.count;
}

abbrev pub decreases-loop-item : goal.decreases-loop-item
decreases-loop-item g l = length (items_left l.indices)
