use Rattle.std.proofs.Common.{◌<◌, ◌-◌, inr, sym, subst, arith, length, rules}
use Rattle.gltf_inspect_trees.specs.Depths.{IsDepth}
use Rattle.gltf_inspect_trees.proofs.Setting.{deep_node, less_deep, right, known_more, here_more}
use Rattle.gltf_inspect_trees.proofs.depths.set_depths.Goals as goal

pub offset_bounds-depths-at : goal.offset_bounds-depths-at
offset_bounds-depths-at c =
    let long = c.requires.long in
    let same = c.loop-deep.auto.depths in
    let in_parents = deep_node c.args.parents.now c.loop-deep.deep c.loop-deep.at
    c.loop-deep-test.true c.loop-deep.invariant.deep in
    let below : c.loop-deep.at < length c.loop-deep.depths = omega arith in
    search rules

pub bounds-depths-at : goal.bounds-depths-at
bounds-depths-at c =
    let long = c.requires.long in
    let same = c.loop-deep.auto.depths in
    let in_parents = deep_node c.args.parents.now c.loop-deep.deep c.loop-deep.at
    c.loop-deep-test.true c.loop-deep.invariant.deep in
    omega arith

pub loop-deep-preserved : goal.loop-deep-preserved
loop-deep-preserved c =
    let p = c.args.parents.now in
    let ds = c.loop-deep.depths in
    let d = c.loop-deep.deep in
    let before = c.loop-deep.invariant in
    let some = c.loop-deep-test.true in
    let long = c.requires.long in
    let same = c.loop-deep.auto.depths in
    let in_parents = deep_node p d c.loop-deep.at some before.deep in
    let below : c.loop-deep.at < length c.loop-deep.depths = omega arith in
    record {
      known = known_more p ds c.loop-deep.at d below before.deep before.known;
      deep =
          subst (λ v. IsDepth c.args.parents.now (c.loop-deep.deep - 1) v) (sym c.led-at.ensures)
          (less_deep p d c.loop-deep.at some before.deep);
      here = inr (here_more p ds c.loop-deep.at d c.args.node below before.deep before.here);
      others = λ k h.
          right p ds c.loop-deep.at d k below before.deep (λ ne. before.others k h);
    }
