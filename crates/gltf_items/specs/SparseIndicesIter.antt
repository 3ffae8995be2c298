-- The list that a `SparseIndicesIter` has left.
use Rattle.std.specs.Prelude.{ℕ, List}
use Rattle.gltf_items.specs.ItemIter.{items_left}
use Rattle.gltf_items.specs.declared.indices.SparseIndicesIter.{SparseIndicesIter}
use Rattle.gltf_items.specs.declared.indices.SparseIndicesIter.TheVariants.{U8, U16, U32}

abbrev pub indices_left : SparseIndicesIter → List ℕ
indices_left (U8 items) = items_left items
indices_left (U16 items) = items_left items
indices_left (U32 items) = items_left items
