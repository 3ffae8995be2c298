-- The conditions under which an accessor can be read, in their order, each with what is reported
-- where it is the first that fails (glTF 2.0, section 3.6.2, "Accessors", 3.6.2.2, "Accessor Data
-- Types", 3.6.2.3, "Sparse Accessors", 3.6.2.4, "Data Alignment", and 3.6.1, "Buffers and Buffer
-- Views").
use Rattle.std.specs.Prelude.{ℕ, ◌+◌, ◌-◌, ◌*◌, ◌^◌, ◌==◌, nat_lt, nat_le, if◌then◌else◌, Bool}
use Rattle.std.specs.Prelude.{false, is_some, List, [], ◌∷◌, ◌++◌, length, take, drop, Option, Some}
use Rattle.std.specs.Prelude.{None, Ok}
use Rattle.std.specs.Prelude.{Err, Result, unwrap_or, option_map, option_and_then}
use Rattle.std.specs.Result.{result_map_both}
use Rattle.gltf_json.specs.declared.root.Root.{Root}
use Rattle.gltf_json_geometry.specs.declared.accessor.Accessor.{Accessor}
use Rattle.gltf_json_geometry.specs.declared.buffer.View.{View}
use Rattle.gltf_json_geometry.specs.declared.accessor.sparse.Sparse.{Sparse}
use Rattle.gltf_handles.specs.Sizes.{item_size}
use Rattle.gltf_items.specs.declared.item.Item.{Ghosts}
use Rattle.gltf_data.specs.Parts.{Part, stride, view_offset, base_part, index_part, value_part}
use Rattle.gltf_data.specs.Parts.{Answers, items, items_with}
use Rattle.gltf_data.specs.declared.unreadable.Part as part
use Rattle.gltf_data.specs.declared.unreadable.Part.TheVariants.{Items, SparseIndices}
use Rattle.gltf_data.specs.declared.unreadable.Part.TheVariants.{SparseValues}
use Rattle.gltf_data.specs.declared.unreadable.Unreadable.{Unreadable}
use Rattle.gltf_data.specs.declared.unreadable.Unreadable.TheVariants.{ItemSize, NoView, NoItems}
use Rattle.gltf_data.specs.declared.unreadable.Unreadable.TheVariants.{Overlap, NoBufferData}
use Rattle.gltf_data.specs.declared.unreadable.Unreadable.TheVariants.{ViewPastBuffer, Overflow}
use Rattle.gltf_data.specs.declared.unreadable.Unreadable.TheVariants.{ItemsPastView}

-- whether a condition holds, and what is reported where it is the first that does not
abbrev pub Condition : Type 0
Condition = Bool × Unreadable

-- x where all conditions hold, else what the first that fails reports
abbrev pub where_all_hold : {X : Type 0} → List Condition → X → Result X Unreadable
where_all_hold [] x = Ok x
where_all_hold (c ∷ others) x = if c.0 then where_all_hold others x else Err c.1

-- ---- the conditions of a part

-- where the last item ends, from the start of the view
abbrev pub items_end : Part → ℕ
items_end p = p.offset + stride p.view p.size * (p.count - 1) + p.size

-- the items end past the view, at an end that 64 bits hold or at none
abbrev pub past_view : part.Part → Part → Unreadable
past_view which p =
    if nat_lt (items_end p) (2 ^ 64) then ItemsPastView which (items_end p) p.view.byte_length
    else Overflow which p.offset (stride p.view p.size) p.count p.size

-- the bytes that were given, or none
abbrev pub given_bytes : Option (List ℕ) → List ℕ
given_bytes given = unwrap_or given []

-- bytes were given for the buffer of a view, and the view is within these
abbrev pub view_conditions : part.Part → View → Option (List ℕ) → List Condition
view_conditions which v given =
    (is_some given, NoBufferData which v.buffer)
    ∷ (
      nat_le (view_offset v + v.byte_length) (length (given_bytes given)),
      ViewPastBuffer which (view_offset v) v.byte_length (length (given_bytes given)),
    )
    ∷ []

-- the items are within the view
abbrev pub room_conditions : part.Part → Part → List Condition
room_conditions which p = (nat_le (items_end p) p.view.byte_length, past_view which p) ∷ []

-- there are items, they do not overlap, and then those
abbrev pub part_conditions : part.Part → Part → Option (List ℕ) → List Condition
part_conditions which p given =
    (nat_lt 0 p.count, NoItems which)
    ∷ (nat_le p.size (stride p.view p.size), Overlap which (stride p.view p.size) p.size)
    ∷ (view_conditions which p.view given ++ room_conditions which p)

-- the bytes from the first item to the end of the last one
abbrev pub bytes_in : Part → Option (List ℕ) → List ℕ
bytes_in p given =
    take (stride p.view p.size * (p.count - 1) + p.size)
    (drop (view_offset p.view + p.offset) (given_bytes given))

-- ---- the conditions of an accessor

-- of a part that needs a view
abbrev pub viewed_conditions : part.Part → Option Part → Option (List ℕ) → List Condition
viewed_conditions which None bytes = (false, NoView) ∷ []
viewed_conditions which (Some p) bytes = part_conditions which p bytes

-- of the base of a sparse accessor: without a view it is zeros, of which there are some
abbrev pub base_conditions : ℕ → Option Part → Option (List ℕ) → List Condition
base_conditions count None bytes = (nat_lt 0 count, NoItems Items) ∷ []
base_conditions count (Some p) bytes = part_conditions Items p bytes

abbrev pub parts_conditions : ℕ → Root → Accessor → Option Sparse → Answers → List Condition
parts_conditions size r a None o = viewed_conditions Items (base_part size r a) o.base
parts_conditions size r a (Some s) o =
    base_conditions a.count (base_part size r a) o.base
    ++ (viewed_conditions SparseIndices (index_part r s) o.indices
    ++ viewed_conditions SparseValues (value_part size r s) o.values)

-- its items have the size that is asked for, and the conditions of its parts hold, one part after
-- the other
abbrev pub conditions : ℕ → Root → Accessor → Answers → List Condition
conditions size r a o =
    (size == item_size a, ItemSize size (item_size a)) ∷ parts_conditions size r a a.sparse o

-- the items of an accessor, or the first condition that fails
abbrev pub items_or_reason : {X : Type 0} → Ghosts X → Root → Accessor → Answers
    → Result (List X) Unreadable
items_or_reason t r a o = where_all_hold (conditions t.size r a o) (items t r a o)
