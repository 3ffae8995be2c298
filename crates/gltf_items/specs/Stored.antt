-- What a sparse iterator stores, and how often it was read.
use Rattle.std.specs.Prelude.{ℕ, ◌≤◌, List, Option, Some, None}

-- the lists that are stored, and how often each was read
pub record StoredLists (X : Type 0) : Type 0 where
  pub base : Option (List X)
  pub indices : List ℕ
  pub values : List X
  pub index_reads : ℕ
  pub base_reads : ℕ
  pub value_reads : ℕ

-- an item of the base is read once where there is a base
abbrev pub reads_of : {X : Type 0} → Option (List X) → ℕ
reads_of None = 0
reads_of (Some items) = 1

-- no count falls
pub record CountsKept {X : Type 0} (old new : StoredLists X) : Type 0 where
  pub indices : old.index_reads ≤ new.index_reads
  pub base : old.base_reads ≤ new.base_reads
  pub values : old.value_reads ≤ new.value_reads
