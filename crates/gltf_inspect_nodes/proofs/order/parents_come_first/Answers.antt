use Rattle.std.proofs.Common.{arith}
use Rattle.std.proofs.lemmas.List.{get_or_default}
use Rattle.gltf_inspect_nodes.proofs.order.parents_come_first.Goals as goal

pub returns-then-parent-i : goal.returns-then-parent-i
returns-then-parent-i c = (
  λ no. cc,
  λ all.
      let i = c.loop-i.i in
      let here = all c.loop-i.i in
      let more = c.if-parent-i.true in
      let same = get_or_default c.args.table.now c.loop-i.i 0 c.loop-i.i c.loop-i-test.true in
      absurd (omega arith),
)
