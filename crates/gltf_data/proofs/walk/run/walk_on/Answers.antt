use Rattle.std.proofs.Common.{◌≡◌, ◌+◌, ◌∙◌, ap, sym, take, get_or, arith}
use Rattle.std.proofs.lemmas.Grind.{common_steps}
use Rattle.gltf_data.specs.Iter.{counted_items}
use Rattle.gltf_data.specs.declared.walk.Step.TheVariants.{Next}
use Rattle.gltf_data.specs.Steps.{after_step, end_of, after_end}
use Rattle.gltf_data.proofs.Lefts.{answers_of, after_steps, one_more, where_cut}
use Rattle.gltf_data.proofs.Positions.{answers-left, after_steps-left, end-left}
use Rattle.gltf_data.proofs.walk.run.walk_on.Goals as goal

pub returns-clause-answers : goal.returns-clause-answers
returns-clause-answers g c =
    let by_left : c.loop-step.answers.items
    ≡ answers_of (counted_items c.args.items.now).items c.args.steps.now =
    grind (arith, common_steps) in
    by_left ∙ answers-left (counted_items c.args.items.now).items 0 c.args.steps.now

pub returns-clause-ended : goal.returns-clause-ended
returns-clause-ended g c =
    let by_left : c.take_end-ended.result
    ≡ end_of (after_steps (counted_items c.args.items.now).items c.args.steps.now) c.args.end =
    grind (arith, common_steps) in
    by_left ∙ ap (λ left. end_of left c.args.end)
    (after_steps-left (counted_items c.args.items.now).items 0 c.args.steps.now)
    ∙ end-left (counted_items c.args.items.now).items _ c.args.end

pub returns-clause-leaves : goal.returns-clause-leaves
returns-clause-leaves g c =
    let by_left : (counted_items c.take_end-ended.new.items).items
    ≡ after_end (after_steps (counted_items c.args.items.now).items c.args.steps.now) c.args.end =
    grind (arith, common_steps) in
    by_left ∙ ap (λ left. after_end left c.args.end)
    (after_steps-left (counted_items c.args.items.now).items 0 c.args.steps.now)

pub loop-step-preserved : goal.loop-step-preserved
loop-step-preserved g c =
    record {
      answers = grind (arith, common_steps);
      before =
          c.take_step-answer.ensures.leaves
          ∙ ap (λ left. after_step left (get_or c.args.steps.now c.loop-step.step-index Next))
          c.loop-step.invariant.before
          ∙ sym (one_more (counted_items c.args.items.now).items c.args.steps.now
          c.loop-step.step-index Next (omega (arith, c.loop-step-test.true)));
      left = grind (arith, common_steps);
      stored = grind (arith, common_steps);
      index_reads = grind (arith, common_steps);
      base_reads = grind (arith, common_steps);
      value_reads = grind (arith, common_steps);
      indices_kept = grind (arith, common_steps);
      base_kept = grind (arith, common_steps);
      values_kept = grind (arith, common_steps);
    }

pub returns-in_err-push-clause-cut_short : goal.returns-in_err-push-clause-cut_short
returns-in_err-push-clause-cut_short g c =
    let items = (counted_items c.args.items.now).items in
    let taken = c.loop-step.step-index + 1 in
    where_cut _ c.from_residual.result (record {
      taken = taken;
      within = omega (arith, c.loop-step-test.true);
      left =
          c.take_step-answer.ensures.leaves
          ∙ ap (λ left. after_step left (get_or c.args.steps.now c.loop-step.step-index Next))
          c.loop-step.invariant.before
          ∙ sym (one_more items c.args.steps.now c.loop-step.step-index Next
          (omega (arith, c.loop-step-test.true)))
          ∙ after_steps-left items 0 (take taken c.args.steps.now);
    })
