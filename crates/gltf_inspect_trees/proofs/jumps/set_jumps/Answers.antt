use Rattle.std.proofs.Common.{◌≡◌, ◌<◌, ◌≤◌, ◌-◌, sym, subst, arith, length, set}
use Rattle.gltf_inspect_trees.specs.Jumps.{AreJumps}
use Rattle.gltf_inspect_trees.proofs.Jumping.{jumps_more, jump_is}
use Rattle.gltf_inspect_trees.proofs.jumps.set_jumps.Goals as goal
use Rattle.gltf_inspect_trees.proofs.jumps.set_jumps.Goals.{then-parents-i, else-parents-i}

pub loop-i-preserved : goal.loop-i-preserved
loop-i-preserved c =
    let p = c.args.parents.now in
    let t = c.loop-i.jumps in
    let in_parents = c.loop-i-test.true in
    let long = c.requires.long in
    let same_long = c.loop-i.auto.jumps in
    elim c.if-parents-i.branch [
      | then-parents-i w ↦
          subst (λ x. AreJumps c.args.first c.args.parents.now x) (sym w.jumps-is)
          (jumps_more c.args.first p t c.loop-i.i w.jump_of.result c.loop-i.invariant (omega arith)
          (jump_is p t (set c.loop-i.depths c.loop-i.i w.saturating_add.result) c.loop-i.i
          w.jump_of.result in_parents w.jump_of.ensures))
      | else-parents-i w ↦
          subst (λ x. AreJumps c.args.first c.args.parents.now x) (sym w.jumps-is)
          c.loop-i.invariant
    ]

pub loop-i-else-first-preserved-then-parents-i-2 :
    goal.loop-i-else-first-preserved-then-parents-i-2
loop-i-else-first-preserved-then-parents-i-2 c =
    let p = c.args.parents.now in
    let t = c.loop-i-else-first.jumps in
    let some = c.loop-i-else-first-test.true in
    let most = c.loop-i-else-first.auto.i in
    let long = c.requires.long in
    let same_long = c.loop-i-else-first.auto.jumps in
    jumps_more c.args.first p t (c.loop-i-else-first.i - 1)
    c.jump_of-then-parents-i-2.result c.loop-i-else-first.invariant (omega arith)
    (jump_is p t
    (set c.loop-i-else-first.depths (c.loop-i-else-first.i - 1)
    c.saturating_add-then-parents-i-2.result)
    (c.loop-i-else-first.i - 1) c.jump_of-then-parents-i-2.result (omega arith)
    c.jump_of-then-parents-i-2.ensures)
