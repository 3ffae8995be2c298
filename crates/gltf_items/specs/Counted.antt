-- What contracts see of a sparse iterator.
use Rattle.std.specs.Prelude.{◌≡◌, ℕ, ◌+◌, ◌≤◌, List}

-- the items that are left, how many indices are stored, and how many indices, items of the base and
-- values were read
pub record CountedItems (X : Type 0) : Type 0 where
  pub items : List X
  pub stored : ℕ
  pub index_reads : ℕ
  pub base_reads : ℕ
  pub value_reads : ℕ

-- it was just made over n stored indices: each of them was read once at most, and no item of the
-- base and no value
pub record IsFresh {X : Type 0} (made : CountedItems X) (n : ℕ) : Type 0 where
  pub stored : made.stored ≡ n
  pub index_reads : made.index_reads ≤ made.stored
  pub base_reads : made.base_reads ≡ 0
  pub value_reads : made.value_reads ≡ 0

-- from the one to the other at most n indices were read, one item of the base and one value; no
-- count falls
pub record Costs {X : Type 0} (old new : CountedItems X) (n : ℕ) : Type 0 where
  pub stored : new.stored ≡ old.stored
  pub indices : new.index_reads ≤ old.index_reads + n
  pub base : new.base_reads ≤ old.base_reads + 1
  pub values : new.value_reads ≤ old.value_reads + 1
  pub indices_kept : old.index_reads ≤ new.index_reads
  pub base_kept : old.base_reads ≤ new.base_reads
  pub values_kept : old.value_reads ≤ new.value_reads
