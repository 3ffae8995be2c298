-- What a reader gives of a primitive, said of its mesh and its index there; and that it read no item
-- and each stored index once at most.
use Rattle.std.proofs.Common.{◌≡◌, ℕ, refl, sym, subst}
use Rattle.std.specs.Prelude.{Option, Some, None, IfSome, MatchOption}
use Rattle.std.specs.Option.{option_and_then, option_map}
use Rattle.gltf_json.specs.declared.root.Root.{Root}
use Rattle.gltf_json_geometry.specs.declared.accessor.Accessor.{Accessor}
use Rattle.gltf_json_geometry.specs.declared.mesh.Primitive.{Primitive as PrimitiveRecord}
use Rattle.gltf_handles.specs.Handle.{Handle}
use Rattle.gltf_handles.specs.Members.{Follows}
use Rattle.gltf_handles.specs.declared.accessor.DataType.{DataType}
use Rattle.gltf_handles.specs.declared.accessor.DataType.TheVariants.{U8, U16, U32}
use Rattle.gltf_items.specs.Counted.{CountedItems, IsFresh}
use Rattle.gltf_items.specs.declared.item.Item.{Ghosts}
use Rattle.gltf_data.specs.Answers.{Results}
use Rattle.gltf_data.specs.Documents.{stored_in}
use Rattle.gltf_data.specs.Iter.{counted_items}
use Rattle.gltf_data.specs.Parts.{stored_count}
use Rattle.gltf_data.specs.declared.accessor_iter.Iter.{Iter}
use Rattle.gltf_casting.specs.Casting.{cast_each}
use Rattle.gltf_casting.specs.declared.indices.ReadIndices.{ReadIndices}
use Rattle.gltf_casting.specs.declared.indices.ReadIndices.TheVariants as index_
use Rattle.gltf_read.specs.Indices.{AreIndices, AreIndicesOf}
use Rattle.gltf_read.specs.Kinds.{Kinds, OfKind, kind_of}
use Rattle.gltf_read.specs.Reading.{AreItems, IsRead, ItemsAs, ReadsMember, type_of}
use Rattle.gltf.specs.Primitives.{stored_at, counted_indices}

-- what is said of the document and of an index of the primitive that was found
pub of_found : {H : Type 0} (shown : H → Handle PrimitiveRecord) (Q : Root → Option ℕ → Type 0)
    (index_of : PrimitiveRecord → Option ℕ) (r : Root) (there : Option PrimitiveRecord) (h : H)
    → Follows (λ json p. ((shown p).document ≡ r) × ((shown p).json ≡ json)) there (Some h)
    → Q (shown h).document (index_of (shown h).json) → Q r (option_and_then index_of there)
of_found shown Q index_of r None h found is = absurd found
of_found shown Q index_of r (Some x) h found is =
    subst (λ (d : Root). Q d (index_of x)) found.0
    (subst (λ (j : PrimitiveRecord). Q (shown h).document (index_of j)) found.1 is)

-- ---- how much was read

abbrev pub FreshItems : {X : Type 0} → {t : Ghosts X} → ℕ → Option (Iter X t) → Type 0
FreshItems n result = IfSome result (λ it. IsFresh (counted_items it) n)

abbrev pub FreshIndices : ℕ → Option ReadIndices → Type 0
FreshIndices n result = IfSome result (λ indices. IsFresh (counted_indices indices) n)

fresh_kind : {E : Type 0} (kind : Option ℕ) (P : E → Type 0) (Read : Type 0) (result : Option E)
    → (Read → IfSome result P) → MatchOption kind (result ≡ None) (λ size. Read)
    → IfSome result P
fresh_kind None P Read result fresh h = rw h tt
fresh_kind (Some size) P Read result fresh h = fresh h

fresh_shown : {X I : Type 0} (shown : I → CountedItems X) (n : ℕ) (result : Option I)
    → IfSome (option_map shown result) (λ c. IsFresh c n) → IfSome result (λ it. IsFresh (shown it) n)
fresh_shown shown n None h = tt
fresh_shown shown n (Some it) h = h

pub fresh_items : {X : Type 0} {t : Ghosts X} (kinds : Kinds) (Gives : Results) (r : Root)
    (index : Option ℕ) (result : Option (Iter X t))
    → ReadsMember (OfKind kinds (AreItems {X = X} {t = t})) Gives r index result
    → FreshItems (stored_at r index) result
fresh_items kinds Gives r None result h = rw h tt
fresh_items kinds Gives r (Some i) result h =
    subst (λ a. FreshItems (stored_in a) result) (sym h.1)
    (fresh_kind (kind_of kinds h.0) (λ it. IsFresh (counted_items it) (stored_count h.0.sparse)) _
    result (λ read. fresh_shown counted_items (stored_count h.0.sparse) result read.fresh) h.2)

cast_fresh : {X Y : Type 0} (f : X → Y) (c : CountedItems X) (n : ℕ) → IsFresh c n
    → IsFresh (cast_each f c) n
cast_fresh f c n h =
    record {
      stored = h.stored;
      index_reads = h.index_reads;
      base_reads = h.base_reads;
      value_reads = h.value_reads;
    }

fresh_row : {t : Ghosts ℕ} (variant : Iter ℕ t → ReadIndices) (Gives : Results) (r : Root)
    (a : Accessor) (result : Option ReadIndices)
    → ((it : Iter ℕ t) → counted_indices (variant it) ≡ cast_each (λ i. i) (counted_items it))
    → ItemsAs variant (IsRead Gives r a) result → FreshIndices (stored_count a.sparse) result
fresh_row {t} variant Gives r a result same h =
    let n = stored_count a.sparse in
    let each : (read : Option (Iter ℕ t))
    → IfSome (option_map counted_items read) (λ c. IsFresh c n)
    → FreshIndices n (option_map variant read) =
    elim [
      | None ↦ λ fresh. tt
      | Some it ↦ λ fresh.
          subst (λ c. IsFresh c n) (sym (same it)) (cast_fresh (λ i. i) (counted_items it) n fresh)
    ] in
    rw h.told (each h.read h.is.fresh)

fresh_table : (Gives : Results) (r : Root) (a : Accessor) (type : Option DataType)
    (result : Option ReadIndices) → AreIndicesOf (IsRead Gives r a) type result
    → FreshIndices (stored_count a.sparse) result
fresh_table Gives r a (Some U8) result h = fresh_row index_.U8 Gives r a result (λ it. refl) h
fresh_table Gives r a (Some U16) result h = fresh_row index_.U16 Gives r a result (λ it. refl) h
fresh_table Gives r a (Some U32) result h = fresh_row index_.U32 Gives r a result (λ it. refl) h
fresh_table Gives r a _ result h = rw h tt

pub fresh_indices : (kinds : Kinds) (Gives : Results) (r : Root) (index : Option ℕ)
    (result : Option ReadIndices) → ReadsMember (OfKind kinds AreIndices) Gives r index result
    → FreshIndices (stored_at r index) result
fresh_indices kinds Gives r None result h = rw h tt
fresh_indices kinds Gives r (Some i) result h =
    subst (λ a. FreshIndices (stored_in a) result) (sym h.1)
    (fresh_kind (kind_of kinds h.0)
    (λ indices. IsFresh (counted_indices indices) (stored_count h.0.sparse)) _
    result (fresh_table Gives r h.0 (type_of h.0) result) h.2)
