-- The same as in `Walk`, in terms of the items that are left.
use Rattle.std.specs.Prelude.{◌≡◌, ℕ, ◌+◌, ◌-◌, ◌≤◌, List, [], length, drop, slice_get}
use Rattle.gltf_items.specs.Counted.{CountedItems}
use Rattle.gltf_data.specs.declared.walk.Step.{Step}
use Rattle.gltf_data.specs.declared.walk.Step.TheVariants.{Next, Nth, Len}
use Rattle.gltf_data.specs.declared.walk.End.{End}
use Rattle.gltf_data.specs.declared.walk.End.TheVariants.{Last, Count, Stop}
use Rattle.gltf_data.specs.declared.walk.Answer.{Answer}
use Rattle.gltf_data.specs.declared.walk.Answer.TheVariants.{Item, Length}
use Rattle.gltf_data.specs.declared.walk.Walked.{Walked}
use Rattle.gltf_data.specs.declared.walk.Ended as outcome
use Rattle.gltf_data.specs.declared.walk.Ended.TheVariants as outcomes

abbrev pub answer_of : {X : Type 0} → List X → Step → Answer X
answer_of left Next = Item (slice_get left 0)
answer_of left (Nth n) = Item (slice_get left n)
answer_of left Len = Length (length left)

abbrev pub after_step : {X : Type 0} → List X → Step → List X
after_step left Next = drop 1 left
after_step left (Nth n) = drop (n + 1) left
after_step left Len = left

abbrev pub end_of : {X : Type 0} → List X → End → outcome.Ended X
end_of left Last = outcomes.Last (slice_get left (length left - 1))
end_of left Count = outcomes.Count (length left)
end_of left Stop = outcomes.Stopped

abbrev pub after_end : {X : Type 0} → List X → End → List X
after_end left Last = []
after_end left Count = left
after_end left Stop = left

-- from the one to the other at most so many indices were read, and so many items of the base and
-- values; no count falls
pub record Takes {X : Type 0} (old new : CountedItems X) (indices items : ℕ) : Type 0 where
  pub stored : new.stored ≡ old.stored
  pub index_reads : new.index_reads ≤ old.index_reads + indices
  pub base_reads : new.base_reads ≤ old.base_reads + items
  pub value_reads : new.value_reads ≤ old.value_reads + items
  pub indices_kept : old.index_reads ≤ new.index_reads
  pub base_kept : old.base_reads ≤ new.base_reads
  pub values_kept : old.value_reads ≤ new.value_reads

-- a walk reports what was read from the one to the other
pub record ReportsReads {X : Type 0} (old new : CountedItems X) (w : Walked X) : Type 0 where
  pub index_reads : old.index_reads + w.index_reads ≡ new.index_reads
  pub base_reads : old.base_reads + w.base_reads ≡ new.base_reads
  pub value_reads : old.value_reads + w.value_reads ≡ new.value_reads
