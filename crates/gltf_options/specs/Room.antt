-- The memory of bytes that are given up.
use Rattle.std.specs.Prelude.{◌≡◌, ◌%◌, ℕ, List, Some, None, true, is_some, length, take, slice_get}
use Rattle.std.specs.List.{list_all}
use Rattle.std.specs.Cow.{cow_slice_items}
use Rattle.std.specs.declared.alloc.Global.{Global}
use Rattle.std.specs.declared.borrow.CowSlice.{CowSlice}
use Rattle.gltf_buffers.specs.Buffers.{Source}
use Rattle.gltf_buffers.specs.declared.data.Data.{Data}
use Rattle.gltf.specs.Import.{AreParts}
use Rattle.gltf.specs.Room.{IsInRoomOf}

-- the buffer to which the blob of bytes that are given up belongs, the first without URI, is in the
-- room that they had, where the blob has as many bytes as a multiple of four (glTF 2.0, section
-- 4.4.3.1, asks that of each chunk)
abbrev pub BlobStays : CowSlice ℕ Global → List Source → List Data → Type 0
BlobStays given sources all =
    (text blob : List ℕ) → AreParts (cow_slice_items given) text (Some blob)
    → length blob % 4 ≡ 0 → (i : ℕ) (source : Source) (read : Data)
    → slice_get sources i ≡ Some source → slice_get all i ≡ Some read
    → list_all (λ s. is_some s.uri) (take i sources) ≡ true → source.uri ≡ None
    → IsInRoomOf given read.0
