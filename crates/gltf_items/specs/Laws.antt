-- What the definitions are meant to say.
use Rattle.std.specs.Prelude.{◌≡◌, ◌≢◌, ℕ, zero, suc, ◌+◌, ◌<◌, ◌≤◌, ◌↔◌, List, length, take, drop}
use Rattle.std.specs.Prelude.{slice_get, slice_index, Option, Some, IsSome}
use Rattle.std.specs.List.Sorted.{IsStrictlyIncreasing}
use Rattle.gltf_items.specs.Sparse.{front, under, sparse_item}

-- what n + 1 calls of `next` answer last, and what they leave
abbrev pub by_next : {X : Type 0} → List X → ℕ → Option X × List X
by_next items zero = (slice_get items 0, drop 1 items)
by_next items (suc n) = by_next (drop 1 items) n

-- the item at place n is the last answer of n + 1 calls, which is one exactly where so many items
-- are there
pub record NthIsNext {X : Type 0} (items : List X) (n : ℕ) : Type 0 where
  pub answers : (by_next items n).0 ≡ slice_get items n
  pub leaves : (by_next items n).1 ≡ drop (n + 1) items
  pub ends : IsSome (by_next items n).0 ↔ (n < length items)

-- xs is the longest strictly increasing beginning of the indices that is no longer than the values
pub record IsFront {X : Type 0} (indices : List ℕ) (values : List X) (xs : List ℕ) : Type 0 where
  pub beginning : xs ≡ take (length xs) indices
  pub valued : length xs ≤ length values
  pub strictly : IsStrictlyIncreasing xs
  pub longest : (n : ℕ) → n ≤ length indices → n ≤ length values
      → IsStrictlyIncreasing (take n indices) → n ≤ length xs

-- the k-th index of the front gives its item the k-th value, and every other item is the one under
-- the values
pub record Overrides {X : Type 0} (nil : X) (base : Option (List X)) (indices : List ℕ)
    (values : List X) : Type 0 where
  pub replaced : (k : ℕ) → k < length (front indices values)
      → slice_get values k ≡ Some (sparse_item nil base indices values
      (slice_index (front indices values) k))
  pub kept : (i : ℕ) → ((k : ℕ) → k < length (front indices values)
      → slice_index (front indices values) k ≢ i)
      → sparse_item nil base indices values i ≡ under nil base i
