-- The positions and the indices of the vertices of a primitive (glTF 2.0, section 3.7.2.1, "Meshes:
-- Overview", `POSITION` and `indices`).
use Rattle.std.specs.Prelude.{ℕ, List, Option}
use Rattle.std.specs.Option.{option_and_then}
use Rattle.gltf_json.specs.declared.root.Root.{Root}
use Rattle.gltf_json_geometry.specs.declared.semantic.Semantic.TheVariants as attributes
use Rattle.gltf_items.specs.Counted.{CountedItems}
use Rattle.gltf_items.specs.declared.item.Item.{Ghosts}
use Rattle.gltf_data.specs.Documents.{accessor_at, stored_in}
use Rattle.gltf_data.specs.Iter.{counted_items}
use Rattle.gltf_data.specs.declared.accessor_iter.Iter.{Iter}
use Rattle.gltf_casting.specs.Indices.{cast_indices}
use Rattle.gltf_casting.specs.declared.indices.ReadIndices.{ReadIndices}
use Rattle.gltf_read.specs.Indices.{AreIndices}
use Rattle.gltf_read.specs.Kinds.{OfKind, three_floats, indices}
use Rattle.gltf_read.specs.Members.{attribute_at, indices_at}
use Rattle.gltf_read.specs.Reading.{AreItems, ComesAs, IsMember}

-- how many indices are stored at the accessor that a member names (section 3.6.2.3, "Sparse
-- Accessors")
abbrev pub stored_at : Root → Option ℕ → ℕ
stored_at r index = stored_in (option_and_then (accessor_at r) index)

-- the indices that are left, as numbers, and the counts of what was read
abbrev pub counted_indices : ReadIndices → CountedItems ℕ
counted_indices indices = cast_indices (λ i. i) (λ i. i) (λ i. i) indices

-- the positions of primitive p of mesh m, by what is answered for each buffer: the items of the
-- accessor that it names for them, which are three floats each; none where there is no such
-- primitive, where it names none, or where they are of another type
abbrev pub PositionsAt : {X : Type 0} → {t : Ghosts X} → ℕ → ℕ → Root → (ℕ → Option (List ℕ))
    → Option (Iter X t) → Type 0
PositionsAt m p r answer result =
    IsMember (OfKind three_floats AreItems) r answer (attribute_at r m p attributes.Positions) result

-- its indices: the items of the accessor that it names for them, which are one unsigned integer
-- each, by the type of components
abbrev pub IndicesAt : ℕ → ℕ → Root → (ℕ → Option (List ℕ)) → Option ReadIndices → Type 0
IndicesAt m p r answer result =
    IsMember (OfKind indices AreIndices) r answer (indices_at r m p) result

-- the same in lists
abbrev pub PositionListAt : {X : Type 0} → Ghosts X → ℕ → ℕ → Root → (ℕ → Option (List ℕ))
    → Option (List X) → Type 0
PositionListAt {X} t m p r answer result =
    ComesAs (λ (it : Iter X t). (counted_items it).items) (PositionsAt m p r answer) result

abbrev pub IndexListAt : ℕ → ℕ → Root → (ℕ → Option (List ℕ)) → Option (List ℕ) → Type 0
IndexListAt m p r answer result =
    ComesAs (λ indices. (counted_indices indices).items) (IndicesAt m p r answer) result
