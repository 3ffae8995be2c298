-- The bytes of the components of all items of an accessor, item after item: without the padding of
-- small matrices (glTF 2.0, section 3.6.2.4, "Data Alignment"), with the sparse values in their
-- places (section 3.6.2.3, "Sparse Accessors"), and zeros where there is no view (section 5.1.1,
-- "accessor.bufferView").
use Rattle.std.specs.Prelude.{ℕ, ◌+◌, ◌-◌, ◌*◌, ◌%◌, ◌&&◌, Bool, List, replicate, take}
use Rattle.std.specs.Prelude.{Option, Some, None, SomeIff, Result, is_none, unwrap_or, nat_lt}
use Rattle.std.specs.Prelude.{option_and_then, option_map, if◌then◌else◌}
use Rattle.std.specs.List.{concat}
use Rattle.gltf_json.specs.declared.root.Root.{Root}
use Rattle.gltf_json_record.specs.declared.validation.Checked.{Checked}
use Rattle.gltf_json_record.specs.declared.validation.Checked.TheVariants.{Invalid, Valid}
use Rattle.gltf_json_geometry.specs.declared.accessor.«Type» as shape
use Rattle.gltf_json_geometry.specs.declared.buffer.View.{View}
use Rattle.gltf_json_geometry.specs.declared.accessor.Accessor.{Accessor}
use Rattle.gltf_json_geometry.specs.declared.accessor.sparse.Sparse.{Sparse}
use Rattle.gltf_handles.specs.Sizes.{code_of, component_size, data_type, dimensions, item_size}
use Rattle.gltf_handles.specs.declared.accessor.Dimensions.{Dimensions}
use Rattle.gltf_handles.specs.declared.accessor.Dimensions.TheVariants.{Scalar, Vec2, Vec3, Vec4}
use Rattle.gltf_handles.specs.declared.accessor.Dimensions.TheVariants.{Mat2, Mat3, Mat4}
use Rattle.gltf_items.specs.Reading.{in_row}
use Rattle.gltf_items.specs.Sparse.{sparse}
use Rattle.gltf_items.specs.declared.item.Item.{Ghosts}
use Rattle.gltf_data.specs.Answers.{Results, AlwaysAnswers, IsAnsweredFor, answer_for}
use Rattle.gltf_data.specs.Parts.{Part, Answers, part_of, base_part, index_part, value_part}
use Rattle.gltf_data.specs.Parts.{view_at, stride, base_items, index_items, part_items}
use Rattle.gltf_data.specs.Parts.{BaseReadable, PartReadable}
use Rattle.gltf_access.specs.Flat.{IsWritten}
use Rattle.gltf_access.specs.declared.flat.NotWritten.{NotWritten}
use Rattle.gltf_access.specs.declared.layout.Layout.{Layout}

-- ---- where the components of an item stand

-- the columns of a matrix; a scalar and a vector are one
abbrev pub columns_of : Dimensions → ℕ
columns_of Scalar = 1
columns_of Vec2 = 1
columns_of Vec3 = 1
columns_of Vec4 = 1
columns_of Mat2 = 2
columns_of Mat3 = 3
columns_of Mat4 = 4

-- the components of a column
abbrev pub rows_of : Dimensions → ℕ
rows_of Scalar = 1
rows_of Vec2 = 2
rows_of Vec3 = 3
rows_of Vec4 = 4
rows_of Mat2 = 2
rows_of Mat3 = 3
rows_of Mat4 = 4

-- how many bytes are missing to a multiple of four
abbrev pub to_four : ℕ → ℕ
to_four n = (4 - n % 4) % 4

-- the bytes of padding at the end of a column of so many bytes: each column of a matrix begins at a
-- multiple of four bytes (section 3.6.2.4)
abbrev pub padding_of : Dimensions → ℕ → ℕ
padding_of Scalar n = 0
padding_of Vec2 n = 0
padding_of Vec3 n = 0
padding_of Vec4 n = 0
padding_of Mat2 n = to_four n
padding_of Mat3 n = to_four n
padding_of Mat4 n = to_four n

-- the columns of an item of that shape, the bytes of the components of each, and the bytes of
-- padding at its end, where a component has so many bytes
abbrev pub laid_out : ℕ → Dimensions → Layout
laid_out component d = record {
  columns = columns_of d;
  column = rows_of d * component;
  padding = padding_of d (rows_of d * component);
}

abbrev pub laid_out_as : ℕ → Checked shape.«Type» → Layout
laid_out_as component Invalid = record { columns = 0; column = 0; padding = 0 }
laid_out_as component (Valid t) = laid_out component (dimensions t)

-- those of the items of an accessor
abbrev pub layout_of : Accessor → Layout
layout_of a = laid_out_as (code_of (λ c. component_size (data_type c)) a.component_type) a.type_

-- the bytes from the beginning of a column to that of the next
abbrev pub step : Layout → ℕ
step l = l.column + l.padding

-- the bytes from an item to the next where a view states no distance: those of its columns, each with
-- its padding
abbrev pub padded_size : Layout → ℕ
padded_size l = l.columns * step l

-- the bytes from the beginning of an item to the end of its last component: behind the last column no
-- padding is needed, since only the beginnings of columns are at multiples of four
abbrev pub end_size : Layout → ℕ
end_size l = (l.columns - 1) * step l + l.column

-- the bytes of its components alone
abbrev pub bare_size : Layout → ℕ
bare_size l = l.columns * l.column

-- where the component in that row and column begins in an item, where a component has so many bytes
abbrev pub component_offset : ℕ → Layout → ℕ → ℕ → ℕ
component_offset component l row column = column * step l + row * component

-- the bytes of the components of an item, column after column
abbrev pub components : Layout → List ℕ → List ℕ
components l bytes = concat (in_row l.columns (step l) (take l.column) bytes)

-- an item ends with its last component, and is the bytes of its components
abbrev pub as_components : Layout → Ghosts (List ℕ)
as_components l = record {
  size = end_size l;
  value = components l;
  zero_item = replicate (bare_size l) 0;
}

-- ---- where the items of an accessor stand

-- a view that states the distance from item to item as n bytes where it states none
abbrev pub spaced : ℕ → View → View
spaced n v = record v { byte_stride = Some (stride v n) }

-- items in a view that are n bytes apart where it states no distance
abbrev pub spaced_part : ℕ → Option Part → Option Part
spaced_part n part =
    option_map (λ p. part_of (spaced n p.view) p.offset p.count p.size) part

-- the items of an accessor, where it has a view
abbrev pub base_at : ℕ → ℕ → Root → Accessor → Option Part
base_at n size r a = spaced_part n (base_part size r a)

-- the values of its sparse part
abbrev pub values_at : ℕ → ℕ → Root → Sparse → Option Part
values_at n size r s = spaced_part n (value_part size r s)

-- ---- which accessors can be read

-- it has neither a view nor a sparse part, so that all its items are zeros
abbrev pub is_zeros : Root → Accessor → Bool
is_zeros r a = is_none (option_and_then (view_at r) a.buffer_view) && is_none a.sparse

-- each part of a sparse accessor can be read: its view's items, or some zeros, and the stored indices
-- and values
pub record IsOverridable (n size : ℕ) (r : Root) (a : Accessor) (s : Sparse)
    (o : Answers) : Type 0 where
  pub base : BaseReadable a.count (base_at n size r a) o.base
  pub indices : PartReadable (index_part r s) o.indices
  pub values : PartReadable (values_at n size r s) o.values

-- its items are those of its view, or zeros without one, of which there are some; and each part of a
-- sparse accessor can be read
abbrev pub ZeroedReadable : ℕ → ℕ → Root → Accessor → Option Sparse → Answers → Type 0
ZeroedReadable n size r a None o = BaseReadable a.count (base_at n size r a) o.base
ZeroedReadable n size r a (Some s) o = IsOverridable n size r a s o

-- ---- what is read

-- the items of a sparse accessor: those of its view, or zeros, some of which are overridden
abbrev pub overridden_items : {X : Type 0} → ℕ → Ghosts X → Root → Accessor → Sparse → Answers
    → List X
overridden_items n t r a s o =
    sparse t.zero_item (base_items t.value (base_at n t.size r a) o.base) a.count
    (index_items r s o.indices) (part_items t.value (values_at n t.size r s) o.values)

-- the items of an accessor
abbrev pub zeroed_items : {X : Type 0} → ℕ → Ghosts X → Root → Accessor → Option Sparse → Answers
    → List X
zeroed_items n t r a None o =
    unwrap_or (base_items t.value (base_at n t.size r a) o.base) (replicate a.count t.zero_item)
zeroed_items n t r a (Some s) o = overridden_items n t r a s o

-- ---- by what a closure answered

-- it answered for the parts that were reached: the base, then the indices, then the values, up to the
-- first that can't be read
pub record AreOverridesAsked (Gives : Results) (n size : ℕ) (r : Root) (a : Accessor) (s : Sparse)
    (o : Answers) : Type 0 where
  pub base : IsAnsweredFor Gives r (base_at n size r a) o.base
  pub indices : BaseReadable a.count (base_at n size r a) o.base
      → IsAnsweredFor Gives r (index_part r s) o.indices
  pub values : BaseReadable a.count (base_at n size r a) o.base
      → PartReadable (index_part r s) o.indices
      → IsAnsweredFor Gives r (values_at n size r s) o.values

abbrev pub AreAsked : Results → ℕ → ℕ → Root → Accessor → Option Sparse → Answers → Type 0
AreAsked Gives n size r a None o = IsAnsweredFor Gives r (base_at n size r a) o.base
AreAsked Gives n size r a (Some s) o = AreOverridesAsked Gives n size r a s o

-- what a closure answers for the parts that answers one buffer always alike
abbrev pub answers_at : (ℕ → Option (List ℕ)) → ℕ → ℕ → Root → Accessor → Option Sparse → Answers
answers_at answer n size r a None =
    record { base = answer_for answer (base_at n size r a); indices = None; values = None }
answers_at answer n size r a (Some s) =
    record {
      base = answer_for answer (base_at n size r a);
      indices = answer_for answer (index_part r s);
      values = answer_for answer (values_at n size r s);
    }

-- an accessor was read as items of that size, n bytes apart where a view states no distance, by what
-- a closure answered for its parts: what is read where it can be read by these, else nothing; and
-- where it answers one buffer always alike, by what it always answers
pub record Takes {X : Type 0} (Gives : Results) (n size : ℕ) (r : Root) (a : Accessor)
    (s : Option Sparse) (CanRead : Answers → Type 0) (read : Answers → List X)
    (result : Option (List X)) : Type 0 where
  pub answers : Answers
  pub asked : AreAsked Gives n size r a s answers
  pub exactly : SomeIff result (CanRead answers) (read answers)
  pub alike : (answer : ℕ → Option (List ℕ)) → AlwaysAnswers Gives r answer
      → SomeIff result (CanRead (answers_at answer n size r a s))
      (read (answers_at answer n size r a s))

-- its items as items of that kind, or zeros
abbrev pub TakesZeroed : {X : Type 0} → Results → ℕ → Ghosts X → Root → Accessor
    → Option (List X) → Type 0
TakesZeroed Gives n t r a result =
    Takes Gives n t.size r a a.sparse (ZeroedReadable n t.size r a a.sparse)
    (zeroed_items n t r a a.sparse) result

-- the bytes of the components of each item
abbrev pub TakesComponents : Results → Layout → Root → Accessor → Option (List (List ℕ)) → Type 0
TakesComponents Gives l r a items =
    TakesZeroed Gives (padded_size l) (as_components l) r a items

-- the same by what is answered for each buffer
abbrev pub ComponentsAs : Layout → (ℕ → Option (List ℕ)) → Root → Accessor
    → Option (List (List ℕ)) → Type 0
ComponentsAs l answer r a items =
    SomeIff items
    (ZeroedReadable (padded_size l) (end_size l) r a a.sparse
    (answers_at answer (padded_size l) (end_size l) r a a.sparse))
    (zeroed_items (padded_size l) (as_components l) r a a.sparse
    (answers_at answer (padded_size l) (end_size l) r a a.sparse))

abbrev pub ComponentsBy : (ℕ → Option (List ℕ)) → Root → Accessor → Option (List (List ℕ)) → Type 0
ComponentsBy answer r a items = ComponentsAs (layout_of a) answer r a items

-- so many items of zeros of that size, of which there are some
abbrev pub zeros : ℕ → ℕ → Option (List (List ℕ))
zeros count size = if nat_lt 0 count then Some (replicate count (replicate size 0)) else None

-- the bytes of the components of all items, written to a room
pub record AreComponentsIn (Gives : Results) (r : Root) (a : Accessor)
    (result : Result ℕ NotWritten) (old new : List ℕ) : Type 0 where
  pub items : Option (List (List ℕ))
  pub taken : TakesComponents Gives (layout_of a) r a items
  pub written : IsWritten (item_size a) items result old new
