-- What a block owns: memory with just its bytes, and the right to free it. An empty one has none.
use Rattle.std.specs.Prelude.{ℕ, List, length}
use base.Fml.{Fml, fsep, feq}
use denote.Builtin.{u8}
use denote.RawPtr.{Ptr}
use Rattle.std_alloc.specs.Vec.Ownership.{vec_owns, owns_if, has_block}
use Rattle.gltf_c_block.specs.Heap.{right_to_free}

-- what a vector of bytes owns that has no room for more: the size is below 2 ^ 63, the pointer is
-- not null, and there is a block of the heap that has this size and these bytes, and may be freed
abbrev pub memory_owns : Ptr → ℕ → List ℕ → Fml
memory_owns at size bytes = vec_owns right_to_free u8 at size size bytes

abbrev pub full_owns : Ptr → ℕ → List ℕ → Fml
full_owns at size bytes = fsep (feq ℕ size (length bytes)) (memory_owns at size bytes)

-- with size 0 there are no bytes, and the pointer owns nothing
abbrev pub block_owns : Ptr → ℕ → List ℕ → Fml
block_owns at size bytes =
    fsep (feq ℕ size (length bytes)) (owns_if (has_block size) (memory_owns at size bytes))
