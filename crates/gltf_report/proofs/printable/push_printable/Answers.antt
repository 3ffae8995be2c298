use Rattle.std.proofs.Common.{◌++◌, ◌∷◌, []}
use Rattle.gltf_report.proofs.Printed.{text-one_more, shown-one_more}
use Rattle.gltf_report.proofs.printable.push_printable.Goals as goal

pub loop-c-preserved : goal.loop-c-preserved
loop-c-preserved c =
    let cs = c.loop-c.invariant.0 in (
      cs ++ c.in-Some.c ∷ [],
      text-one_more cs c.in-Some.c _ _ _ c.in-Some.ensures.steps.0 c.loop-c.invariant.1,
      shown-one_more cs c.in-Some.c _ _ _ c.in_ok-push_char.ensures c.loop-c.invariant.2,
    )
