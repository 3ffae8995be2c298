-- What a sparse iterator keeps true of its cursor.
use Rattle.std.specs.Prelude.{◌≡◌, ℕ, ◌<◌, ◌≤◌, List, length, slice_index}
use Rattle.gltf_items.specs.Sparse.{front, total}
use Rattle.gltf_items.specs.Stored.{StoredLists}

-- the first n indices strictly increase
pub record Rises (indices : List ℕ) (n : ℕ) : Type 0 where
  pub within : n ≤ length indices
  pub strictly : (j k : ℕ) → j < k → k < n → slice_index indices j < slice_index indices k

-- of the first n indices, those before the cursor are below the position, and the others are not
pub record Stands (indices : List ℕ) (n cursor position : ℕ) : Type 0 where
  pub within : cursor ≤ n
  pub below : (k : ℕ) → k < cursor → slice_index indices k < position
  pub above : (k : ℕ) → cursor ≤ k → k < n → position ≤ slice_index indices k

-- what a sparse iterator keeps of its fields
pub record Keeps {X : Type 0} (stored : StoredLists X)
    (end front_len cursor position : ℕ) : Type 0 where
  pub front_is : front_len ≡ length (front stored.indices stored.values)
  pub end_is : end ≡ total stored.base end
  pub within : position ≤ end
  pub stands : position < end → Stands stored.indices front_len cursor position
