use Rattle.std.proofs.Common.{rules}
use Rattle.std.proofs.Output.{has_written_append, has_written_of_eq}
use Rattle.gltf_json_record.proofs.StepTexts.{steps_text-one_more}
use Rattle.gltf_json_record.proofs.path.write_steps.Goals as goal

pub loop-step-preserved : goal.loop-step-preserved
loop-step-preserved g c = λ plain.
    has_written_of_eq _ _ _ _ _
    (steps_text-one_more c.args.steps.now c.loop-step.step-index c.step-item.result
    (search rules) c.step-item.is)
    (has_written_append _ _ _ _ _ _ (c.loop-step.invariant plain) (search rules))
