use Rattle.std.proofs.Common.{◌≡◌, ◌+◌, ◌≤◌, ◌++◌, take, drop}
use Rattle.std.specs.Prelude.{sum_by}
use Rattle.gltf_data.specs.Iter.{counted_items}
use Rattle.gltf_data.proofs.Lefts.{answers_of, after_steps}
use Rattle.gltf_data.specs.Walk.{step_reads, step_items}
use Rattle.gltf_data.proofs.walk.run.walk_on.Given as goal

abbrev pub invariant-loop-step : goal.invariant-loop-step
invariant-loop-step g l = record {
  answers : l.answers.items ++ answers_of (counted_items l.items).items (drop l.step-index l.steps)
      ≡ answers_of (counted_items l.initial.items).items l.steps;
  before : (counted_items l.items).items
      ≡ after_steps (counted_items l.initial.items).items (take l.step-index l.steps);
  left : after_steps (counted_items l.items).items (drop l.step-index l.steps)
      ≡ after_steps (counted_items l.initial.items).items l.steps;
  stored : (counted_items l.items).stored ≡ (counted_items l.initial.items).stored;
  index_reads : (counted_items l.items).index_reads
      + sum_by (step_reads (counted_items l.initial.items).stored) (drop l.step-index l.steps)
      ≤ (counted_items l.initial.items).index_reads
      + sum_by (step_reads (counted_items l.initial.items).stored) l.steps;
  base_reads : (counted_items l.items).base_reads + sum_by step_items (drop l.step-index l.steps)
      ≤ (counted_items l.initial.items).base_reads + sum_by step_items l.steps;
  value_reads : (counted_items l.items).value_reads + sum_by step_items (drop l.step-index l.steps)
      ≤ (counted_items l.initial.items).value_reads + sum_by step_items l.steps;
  indices_kept : (counted_items l.initial.items).index_reads
      ≤ (counted_items l.items).index_reads;
  base_kept : (counted_items l.initial.items).base_reads ≤ (counted_items l.items).base_reads;
  values_kept : (counted_items l.initial.items).value_reads ≤ (counted_items l.items).value_reads;
}
