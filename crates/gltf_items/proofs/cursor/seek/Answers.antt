use Rattle.std.proofs.Common.{◌+◌, ◌-◌, ◌/◌, ◌<◌, ◌≤◌, arith, rules}
use Rattle.std.specs.Prelude.{slice_index}
use Rattle.gltf_items.proofs.Cursors.{same_indices, count_is, digits_fall, below_middle}
use Rattle.gltf_items.proofs.Cursors.{above_middle}
use Rattle.gltf_items.proofs.cursor.seek.Goals as goal

pub loop-low-preserved-then-index-target : goal.loop-low-preserved-then-index-target
loop-low-preserved-then-index-target g c =
    let same = same_indices c.args.stored.now c.loop-low.invariant.same in
    let small : slice_index c.args.stored.now.indices
    (c.loop-low.low + (c.loop-low.high - c.loop-low.low) / 2) < c.args.target =
    rw (← same, ← c.index.ensures.gives) c.if-index-target.true in
    let reads = count_is c.loop-low.stored c.index.ensures.counts in
    record {
      low = omega arith;
      high = c.loop-low.invariant.high;
      below = below_middle c.requires.rises (omega (arith, c.loop-low.invariant.high)) small;
      above = c.loop-low.invariant.above;
      same = search rules;
      cost = omega (
        arith,
        reads,
        digits_fall (c.loop-low.high - c.loop-low.low)
            (c.loop-low.high - (c.loop-low.low + (c.loop-low.high - c.loop-low.low) / 2 + 1))
            (omega arith) (omega arith),
      );
      kept = omega (arith, reads);
    }

pub loop-low-preserved : goal.loop-low-preserved
loop-low-preserved g c =
    let same = same_indices c.args.stored.now c.loop-low.invariant.same in
    let large : c.args.target ≤ slice_index c.args.stored.now.indices
    (c.loop-low.low + (c.loop-low.high - c.loop-low.low) / 2) =
    rw (← same, ← c.index.ensures.gives) c.if-index-target.false in
    let reads = count_is c.loop-low.stored c.index.ensures.counts in
    record {
      low = omega arith;
      high = omega (arith, c.loop-low.invariant.high);
      below = c.loop-low.invariant.below;
      above = above_middle c.requires.rises large;
      same = search rules;
      cost = omega (
        arith,
        reads,
        digits_fall (c.loop-low.high - c.loop-low.low)
            (c.loop-low.low + (c.loop-low.high - c.loop-low.low) / 2 - c.loop-low.low) (omega arith)
            (omega arith),
      );
      kept = omega (arith, reads);
    }
