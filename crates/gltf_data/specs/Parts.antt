-- Where the items of an accessor stand in the bytes of buffers, and which accessors can be read
-- (glTF 2.0, section 3.6.2, "Accessors", and 3.6.2.4, "Data Alignment", but for the columns of
-- small matrices).
use Rattle.std.specs.Prelude.{◌≡◌, ℕ, ◌+◌, ◌-◌, ◌*◌, ◌<◌, ◌≤◌, List, [], length, drop, map}
use Rattle.std.specs.Prelude.{slice_get, Option, Some, None, unwrap_or, option_and_then}
use Rattle.std.specs.List.{range_with_len}
use Rattle.std.specs.Option.{option_map}
use Rattle.byteorder.specs.Endian.{little_number}
use Rattle.gltf_json.specs.declared.root.Root.{Root}
use Rattle.gltf_json_geometry.specs.declared.buffer.View.{View}
use Rattle.gltf_json_geometry.specs.declared.accessor.Accessor.{Accessor}
use Rattle.gltf_json_geometry.specs.declared.accessor.sparse.Sparse.{Sparse}
use Rattle.gltf_handles.specs.Members.{above_zero}
use Rattle.gltf_handles.specs.Sizes.{item_size, stored_size}
use Rattle.gltf_items.specs.declared.item.Item.{Ghosts}
use Rattle.gltf_items.specs.Sparse.{sparse}

-- items in a view: their offset from its start, how many there are, and the bytes of each
pub record Part : Type 0 where
  pub view : View
  pub offset : ℕ
  pub count : ℕ
  pub size : ℕ

abbrev pub part_of : View → ℕ → ℕ → ℕ → Part
part_of v o n size = record { view = v; offset = o; count = n; size = size }

-- the distance from item to item: the view's stride, or the size of an item where that is absent or
-- 0
abbrev pub stride : View → ℕ → ℕ
stride v size = unwrap_or (above_zero v.byte_stride) size

abbrev pub view_offset : View → ℕ
view_offset v = unwrap_or v.byte_offset 0

-- where item i begins in the bytes of the buffer
abbrev pub address : Part → ℕ → ℕ
address p i = view_offset p.view + p.offset + i * stride p.view p.size

-- the view is within the bytes, and the items are within the view
pub record Fits (p : Part) (bytes : List ℕ) : Type 0 where
  pub some : 0 < p.count
  pub apart : p.size ≤ stride p.view p.size
  pub view_within : view_offset p.view + p.view.byte_length ≤ length bytes
  pub items_within : p.offset + stride p.view p.size * (p.count - 1) + p.size ≤ p.view.byte_length

-- the bytes were given, and they fit
abbrev pub FitsIn : Part → Option (List ℕ) → Type 0
FitsIn p None = ⊥
FitsIn p (Some bytes) = Fits p bytes

-- for i below the count, what the bytes at the address of item i spell
unfoldable pub addressed : {X : Type 0} → (List ℕ → X) → Part → List ℕ → List X
addressed value p bytes = map (λ i. value (drop (address p i) bytes)) (range_with_len 0 p.count)

abbrev pub items_in : {X : Type 0} → (List ℕ → X) → Part → Option (List ℕ) → List X
items_in value p None = []
items_in value p (Some bytes) = addressed value p bytes

-- ---- the parts of an accessor

abbrev pub view_at : Root → ℕ → Option View
view_at r i = slice_get r.buffer_views.items i

-- its items, where it has a view
abbrev pub base_part : ℕ → Root → Accessor → Option Part
base_part size r a =
    option_map (λ v. part_of v (unwrap_or a.byte_offset 0) a.count size)
    (option_and_then (view_at r) a.buffer_view)

-- the stored indices
abbrev pub index_part : Root → Sparse → Option Part
index_part r s =
    option_map (λ v. part_of v s.indices.byte_offset s.count (stored_size s.indices))
    (view_at r s.indices.buffer_view)

-- the values at these
abbrev pub value_part : ℕ → Root → Sparse → Option Part
value_part size r s =
    option_map (λ v. part_of v s.values.byte_offset s.count size)
    (view_at r s.values.buffer_view)

-- the bytes that were answered for the buffers of the three parts
pub record Answers : Type 0 where
  pub base : Option (List ℕ)
  pub indices : Option (List ℕ)
  pub values : Option (List ℕ)

-- ---- which accessors can be read

abbrev pub PartReadable : Option Part → Option (List ℕ) → Type 0
PartReadable None bytes = ⊥
PartReadable (Some p) bytes = FitsIn p bytes

-- a base without a view is zeros, of which there are some
abbrev pub BaseReadable : ℕ → Option Part → Option (List ℕ) → Type 0
BaseReadable count None bytes = 0 < count
BaseReadable count (Some p) bytes = FitsIn p bytes

pub record SparseReadable (size : ℕ) (r : Root) (a : Accessor) (s : Sparse)
    (o : Answers) : Type 0 where
  pub base : BaseReadable a.count (base_part size r a) o.base
  pub indices : PartReadable (index_part r s) o.indices
  pub values : PartReadable (value_part size r s) o.values

abbrev pub PartsReadable : ℕ → Root → Accessor → Option Sparse → Answers → Type 0
PartsReadable size r a None o = PartReadable (base_part size r a) o.base
PartsReadable size r a (Some s) o = SparseReadable size r a s o

-- an accessor can be read as items of that size
pub record Readable (size : ℕ) (r : Root) (a : Accessor) (o : Answers) : Type 0 where
  pub same_size : size ≡ item_size a
  pub parts : PartsReadable size r a a.sparse o

-- ---- what is read

abbrev pub part_items : {X : Type 0} → (List ℕ → X) → Option Part → Option (List ℕ) → List X
part_items value None bytes = []
part_items value (Some p) bytes = items_in value p bytes

abbrev pub base_items : {X : Type 0} → (List ℕ → X) → Option Part → Option (List ℕ)
    → Option (List X)
base_items value None bytes = None
base_items value (Some p) bytes = Some (items_in value p bytes)

abbrev pub index_items : Root → Sparse → Option (List ℕ) → List ℕ
index_items r s bytes = part_items (little_number (stored_size s.indices)) (index_part r s) bytes

abbrev pub items_with : {X : Type 0} → Ghosts X → Root → Accessor → Option Sparse → Answers → List X
items_with t r a None o = part_items t.value (base_part t.size r a) o.base
items_with t r a (Some s) o =
    sparse t.zero_item (base_items t.value (base_part t.size r a) o.base) a.count
    (index_items r s o.indices) (part_items t.value (value_part t.size r s) o.values)

-- the items of an accessor: those at its addresses, and where it has a sparse part these with the
-- values in place of some of them
abbrev pub items : {X : Type 0} → Ghosts X → Root → Accessor → Answers → List X
items t r a o = items_with t r a a.sparse o

-- how many indices it stores
abbrev pub stored_count : Option Sparse → ℕ
stored_count None = 0
stored_count (Some s) = s.count
