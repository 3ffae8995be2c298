-- What a step does.
use Rattle.std.specs.Prelude.{◌≡◌, ℕ, ◌+◌, Option, drop, slice_get}
use Rattle.gltf_items.specs.Counted.{CountedItems, Costs}
use Rattle.gltf_items.specs.Sparse.{digits}
use Rattle.gltf_casting.specs.declared.step.Step.{Step}
use Rattle.gltf_casting.specs.declared.step.Step.TheVariants.{Next, Nth}

-- how many items it passes over
abbrev pub passed : Step → ℕ
passed Next = 0
passed (Nth n) = n

-- how many of c stored indices it reads at most
abbrev pub index_reads : Step → ℕ → ℕ
index_reads Next c = 1
index_reads (Nth n) c = digits c + 1

-- from the old items it gives the result and leaves the new ones: past the end it gives none, and
-- leaves none
pub record IsStep {X : Type 0} (step : Step) (old new : CountedItems X) (result : Option X)
    : Type 0 where
  pub gives : result ≡ slice_get old.items (passed step)
  pub leaves : new.items ≡ drop (passed step + 1) old.items
  pub costs : Costs old new (index_reads step old.stored)
