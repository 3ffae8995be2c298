-- The items of an accessor that checks look at.
use Rattle.std.specs.Prelude.{ℕ, List, [], Option, Some, None, slice_get, Result, Ok, Err}
use Rattle.byteorder.specs.Endian.{little_number}
use Rattle.gltf_json.specs.declared.root.Root.{Root}
use Rattle.gltf_json_geometry.specs.declared.accessor.Accessor.{Accessor}
use Rattle.gltf_items.specs.declared.item.Item.{Ghosts}
use Rattle.gltf_data.specs.Answers.{answers_by}
use Rattle.gltf_data.specs.Iter.{counted_items}
use Rattle.gltf_data.specs.Unreadable.{items_or_reason}
use Rattle.gltf_data.specs.declared.accessor_iter.Iter.{Iter}
use Rattle.gltf_data.specs.declared.unreadable.Unreadable.{Unreadable}

-- the bytes of each buffer of a document
abbrev pub Bytes : Type 0
Bytes = ℕ → Option (List ℕ)

-- an unsigned number of n bytes
abbrev pub number : ℕ → Ghosts ℕ
number n = record { size = n; value = little_number n; zero_item = 0 }

abbrev pub items_or_none : {X : Type 0} → Result (List X) Unreadable → List X
items_or_none (Ok items) = items
items_or_none (Err reason) = []

-- the items of an accessor: as many as are read, so none where it cannot be read. A sparse one
-- without a view is zeros under its values (glTF 2.0, section 3.6.2.3)
abbrev pub accessor_items : {X : Type 0} → Ghosts X → Root → Bytes → Option Accessor → List X
accessor_items t r bytes None = []
accessor_items t r bytes (Some a) =
    items_or_none (items_or_reason t r a (answers_by bytes t.size r a))

-- those of the accessor at an index
abbrev pub items_at : {X : Type 0} → Ghosts X → Root → Bytes → ℕ → List X
items_at t r bytes i = accessor_items t r bytes (slice_get r.accessors.items i)

-- the items that are left, where some were read
abbrev pub items_left : {X : Type 0} → {t : Ghosts X} → Option (Iter X t) → List X
items_left None = []
items_left (Some items) = (counted_items items).items
