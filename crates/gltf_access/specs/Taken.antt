-- The parts of an accessor, each by one answer for its buffer, and the accessor by these, read as
-- items of a size that need not be its own, at a distance of their own (glTF 2.0, section 3.6.2,
-- "Accessors").
use Rattle.std.specs.Prelude.{◌≡◌, ℕ, ◌+◌, ◌-◌, ◌*◌, ◌<◌, ◌≤◌, ◌⊎◌, List, length, take, drop}
use Rattle.std.specs.Prelude.{Option, Some, None, SomeIff, Result}
use Rattle.gltf_json.specs.declared.root.Root.{Root}
use Rattle.gltf_json_geometry.specs.declared.buffer.View.{View}
use Rattle.gltf_json_geometry.specs.declared.accessor.Accessor.{Accessor}
use Rattle.gltf_json_geometry.specs.declared.accessor.sparse.Sparse.{Sparse}
use Rattle.gltf_items.specs.declared.item.Item.{Ghosts}
use Rattle.gltf_data.specs.Answers.{Results}
use Rattle.gltf_data.specs.Parts.{Part, Answers, PartReadable, BaseReadable, view_offset}
use Rattle.gltf_data.specs.Parts.{base_items, index_part, index_items, part_items}
use Rattle.gltf_access.specs.Raw.{Raw, IsLent, part_view}
use Rattle.gltf_access.specs.Flat.{IsWritten}
use Rattle.gltf_access.specs.Components.{Takes, IsOverridable, as_components, bare_size, end_size}
use Rattle.gltf_access.specs.Components.{padded_size, base_at, overridden_items}
use Rattle.gltf_access.specs.declared.flat.NotWritten.{NotWritten}
use Rattle.gltf_access.specs.declared.layout.Layout.{Layout}

-- the view is within the bytes, and so many items at that distance are within the view and do not
-- overlap
pub record LiesIn (v : View) (offset count stride size : ℕ) (bytes : List ℕ) : Type 0 where
  pub some : 0 < count
  pub apart : size ≤ stride
  pub view_within : view_offset v + v.byte_length ≤ length bytes
  pub items_within : offset + stride * (count - 1) + size ≤ v.byte_length

-- the bytes from the first of them to the end of the last one
abbrev pub bytes_at : View → ℕ → ℕ → ℕ → ℕ → List ℕ → Raw
bytes_at v offset count stride size bytes = record {
  bytes = take (stride * (count - 1) + size) (drop (view_offset v + offset) bytes);
  stride = stride;
  count = count;
}

-- the items of a part
abbrev pub TakesPart : {X : Type 0} → Results → (List ℕ → X) → Root → Option Part
    → Option (List X) → Type 0
TakesPart Gives value r part result =
    IsLent Gives r (part_view part)
    (λ given. SomeIff result (PartReadable part given) (part_items value part given))

-- the stored indices of a sparse part
abbrev pub TakesIndices : Results → Root → Sparse → Option (List ℕ) → Type 0
TakesIndices Gives r s result =
    IsLent Gives r (part_view (index_part r s))
    (λ given. SomeIff result (PartReadable (index_part r s) given) (index_items r s given))

-- what the values of a sparse accessor are put over: the items of its view, or zeros without one
abbrev pub TakesBase : {X : Type 0} → Results → ℕ → Ghosts X → Root → Accessor
    → Option (Option (List X)) → Type 0
TakesBase Gives n t r a result =
    IsLent Gives r (part_view (base_at n t.size r a))
    (λ given. SomeIff result (BaseReadable a.count (base_at n t.size r a) given)
    (base_items t.value (base_at n t.size r a) given))

-- an accessor that has a view or a sparse part can be read
abbrev pub PartsThere : ℕ → ℕ → Root → Accessor → Option Sparse → Answers → Type 0
PartsThere n size r a None o = PartReadable (base_at n size r a) o.base
PartsThere n size r a (Some s) o = IsOverridable n size r a s o

-- and its items
abbrev pub taken_items : {X : Type 0} → ℕ → Ghosts X → Root → Accessor → Option Sparse → Answers
    → List X
taken_items n t r a None o = part_items t.value (base_at n t.size r a) o.base
taken_items n t r a (Some s) o = overridden_items n t r a s o

-- all items of such an accessor
abbrev pub TakesParts : {X : Type 0} → Results → ℕ → Ghosts X → Root → Accessor → Option Sparse
    → Option (List X) → Type 0
TakesParts Gives n t r a s result =
    Takes Gives n t.size r a s (PartsThere n t.size r a s) (taken_items n t r a s) result

-- the bytes of the components of all items of such an accessor, in that layout, written to a room
pub record AreBareIn (Gives : Results) (l : Layout) (r : Root) (a : Accessor)
    (result : Result ℕ NotWritten) (old new : List ℕ) : Type 0 where
  pub items : Option (List (List ℕ))
  pub taken : TakesParts Gives (padded_size l) (as_components l) r a a.sparse items
  pub written : IsWritten (bare_size l) items result old new

-- the sizes of items that have padding between their columns: MAT2 and MAT3 of one byte a component,
-- MAT3 of two
pub record IsPadded (l : Layout) : Type 0 where
  pub some : 0 < l.columns
  pub size : (end_size l ≡ 6) ⊎ ((end_size l ≡ 11) ⊎ (end_size l ≡ 22))
