-- What readers read: of which accessor, and as items of which type.
use Rattle.std.specs.Prelude.{◌≡◌, ℕ, List, Option, Some, None, IfSome}
use Rattle.std.specs.Option.{option_map}
use Rattle.gltf_json.specs.declared.root.Root.{Root}
use Rattle.gltf_json_record.specs.declared.validation.Checked.{Checked}
use Rattle.gltf_json_record.specs.declared.validation.Checked.TheVariants.{Invalid, Valid}
use Rattle.gltf_json_geometry.specs.declared.accessor.Accessor.{Accessor}
use Rattle.gltf_handles.specs.Sizes.{data_type, dimensions}
use Rattle.gltf_handles.specs.declared.accessor.DataType.{DataType}
use Rattle.gltf_handles.specs.declared.accessor.Dimensions.{Dimensions}
use Rattle.gltf_items.specs.Counted.{CountedItems, IsFresh}
use Rattle.gltf_items.specs.declared.item.Item.{Ghosts}
use Rattle.gltf_data.specs.Answers.{Results, Reads, ReadsAlike}
use Rattle.gltf_data.specs.Documents.{accessor_at, ReadsAt}
use Rattle.gltf_data.specs.Iter.{counted_items}
use Rattle.gltf_data.specs.Parts.{stored_count}
use Rattle.gltf_data.specs.declared.accessor_iter.Iter.{Iter}

-- what is said of the items of an accessor that were read as an X, or of none
abbrev pub Reading : Type 1
Reading = (X : Type 0) → Ghosts X → Option (CountedItems X) → Type 0

-- which items a reader reads of an accessor, by such a reading
abbrev pub Table : Type 0 → Type 1
Table E = Reading → Accessor → Option E → Type 0

-- ---- readings

-- the items of the accessor, by the answers of the closure, where it can be read by these; else
-- none. Each stored index was read once at most, and no item
pub record IsRead (Gives : Results) (r : Root) (a : Accessor) (X : Type 0) (t : Ghosts X)
    (result : Option (CountedItems X)) : Type 0 where
  pub items : Reads Gives t r a (option_map (λ c. c.items) result)
  pub alike : ReadsAlike Gives t r a (option_map (λ c. c.items) result)
  pub fresh : IfSome result (λ c. IsFresh c (stored_count a.sparse))

-- the items of accessor i, by what is answered for each buffer
abbrev pub ReadingAt : Root → (ℕ → Option (List ℕ)) → ℕ → Reading
ReadingAt r answer i X t result = ReadsAt t r answer i (option_map (λ c. c.items) result)

-- ---- tables

-- items of one type, whatever the types of components and the dimensions
abbrev pub AreItems : {X : Type 0} → {t : Ghosts X} → Table (Iter X t)
AreItems {X} {t} R a result = R X t (option_map counted_items result)

-- what was read comes as that variant of several
pub record ComesAs {E O : Type 0} (variant : E → O) (Is : Option E → Type 0)
    (result : Option O) : Type 0 where
  pub read : Option E
  pub told : result ≡ option_map variant read
  pub is : Is read

-- items come as that variant
abbrev pub ItemsAs : {X E : Type 0} → {t : Ghosts X} → (Iter X t → E) → Reading → Option E → Type 0
ItemsAs {X} {E} {t} variant R result =
    ComesAs variant (λ read. R X t (option_map counted_items read)) result

-- the meaning of a code; a valid document has no other
abbrev pub meant : {C M : Type 0} → (C → M) → Checked C → Option M
meant meaning Invalid = None
meant meaning (Valid c) = Some (meaning c)

-- the type of the components of an accessor, and how many an item has
abbrev pub type_of : Accessor → Option DataType
type_of a = meant data_type a.component_type

abbrev pub dimensions_of : Accessor → Option Dimensions
dimensions_of a = meant dimensions a.type_

-- ---- of which accessor

-- the reading of the accessor at the index that a member has; where it has none, none
abbrev pub ReadsMember : {E : Type 0} → Table E → Results → Root → Option ℕ → Option E → Type 0
ReadsMember Are Gives r None result = result ≡ None
ReadsMember Are Gives r (Some i) result =
    (a : Accessor) × (accessor_at r i ≡ Some a) × Are (IsRead Gives r a) a result

-- the same by what is answered for each buffer
abbrev pub IsMember : {E : Type 0} → Table E → Root → (ℕ → Option (List ℕ)) → Option ℕ → Option E
    → Type 0
IsMember Are r answer None result = result ≡ None
IsMember Are r answer (Some i) result =
    (a : Accessor) × (accessor_at r i ≡ Some a) × Are (ReadingAt r answer i) a result
