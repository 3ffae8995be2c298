use Rattle.std.proofs.Common.{arith}
use Rattle.std.proofs.lemmas.Grind.{common_steps}
use Rattle.gltf_c_open.proofs.Texts.{one_more}
use Rattle.gltf_c_open.proofs.names.texts_of.Goals as goal
use Rattle.gltf_c_open.proofs.names.texts_of.Goals.{in-Some+in_ok-push, in_default}

pub loop-part-preserved : goal.loop-part-preserved
loop-part-preserved c =
    elim c.match-text_of.branch [
      | in-Some+in_ok-push w ↦
          let more = one_more (λ k. k.now) c.args.parts.now c.loop-part.part-index _ _
          c.loop-part-test.true w.in-Some.ensures in
          grind (arith, common_steps)
      | in_default w ↦
          let more = one_more (λ k. k.now) c.args.parts.now c.loop-part.part-index _ _
          c.loop-part-test.true w.in_default.ensures in
          grind (arith, common_steps)
    ]
