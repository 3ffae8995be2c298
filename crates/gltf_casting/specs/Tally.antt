-- What a tally reports.
use Rattle.std.specs.Prelude.{◌≡◌, length}
use Rattle.gltf_items.specs.Counted.{CountedItems}
use Rattle.gltf_casting.specs.declared.tally.Tally.{Tally}

-- it reports how many items are left, and the three counts of what was read
pub record IsTallyOf {X : Type 0} (counted : CountedItems X) (tally : Tally) : Type 0 where
  pub left : tally.left ≡ length counted.items
  pub index_reads : tally.index_reads ≡ counted.index_reads
  pub base_reads : tally.base_reads ≡ counted.base_reads
  pub value_reads : tally.value_reads ≡ counted.value_reads
