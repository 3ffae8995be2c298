-- Documents that show the same are read alike by each table of readers: one lemma for each of the
-- laws `items_are_alike` to `outputs_are_alike`. All rest on `member_alike`, by cases on whether
-- there is an index: the other document has an accessor of the same content there (`also_there`),
-- so of the same type and dimensions, and the table says of it what it says of the first. The
-- table's part is its lemma in `Rows`, from the law `alike_documents_are_read_alike` at the item
-- type of each row (`row_turned`).
use Rattle.std.proofs.Common.{◌≡◌, ℕ, List, refl, sym, ap, subst, ◌∙◌}
use Rattle.std.specs.Prelude.{Option, Some, None, slice_get, option_map, MatchOption}
use Rattle.std.proofs.lemmas.Option.{slice_get-map}
use Rattle.gltf_json.specs.Alike.{AreAlikeInEachMember}
use Rattle.gltf_json.specs.declared.root.Root.{Root}
use Rattle.gltf_json_animation.specs.declared.animation.Property.{Property}
use Rattle.gltf_json_geometry.specs.Accessors.{accessor}
use Rattle.gltf_json_geometry.specs.declared.accessor.Accessor.{Accessor}
use Rattle.gltf_handles.specs.Sizes.{data_type, dimensions}
use Rattle.gltf_items.specs.declared.item.Item.{Ghosts}
use Rattle.gltf_data.specs.Documents.{accessor_at, ReadsAt}
use Rattle.gltf_data.specs.declared.accessor_iter.Iter.{Iter}
use Rattle.gltf_casting.specs.declared.colors.ReadColors.TheVariants as color
use Rattle.gltf_casting.specs.declared.indices.ReadIndices.TheVariants as index_
use Rattle.gltf_casting.specs.declared.joints.ReadJoints.TheVariants as joint
use Rattle.gltf_casting.specs.declared.morph_target_weights.MorphTargetWeights.TheVariants as target_weight
use Rattle.gltf_casting.specs.declared.outputs.ReadOutputs.TheVariants as output
use Rattle.gltf_casting.specs.declared.rotations.Rotations.TheVariants as rotation
use Rattle.gltf_casting.specs.declared.tex_coords.ReadTexCoords.TheVariants as tex_coord
use Rattle.gltf_casting.specs.declared.weights.ReadWeights.TheVariants as joint_weight
use Rattle.gltf_read.specs.Colors.{AreColors, AreColorsOf}
use Rattle.gltf_read.specs.Indices.{AreIndices, AreIndicesOf}
use Rattle.gltf_read.specs.Joints.{AreJoints, AreJointsOf}
use Rattle.gltf_read.specs.Kinds.{Kinds, OfKind, kind_of}
use Rattle.gltf_read.specs.Laws.{IsAlike}
use Rattle.gltf_read.specs.Outputs.{AreOutputs, AreOutputsOf}
use Rattle.gltf_read.specs.Reading.{Table, ReadingAt, AreItems, meant, type_of}
use Rattle.gltf_read.specs.Reading.{dimensions_of}
use Rattle.gltf_read.specs.TexCoords.{AreTexCoords, AreTexCoordsOf}
use Rattle.gltf_read.specs.Weights.{AreWeights, AreWeightsOf}
use Rattle.gltf_read.proofs.Rows.{Turns, colors_turned, indices_turned, joints_turned}
use Rattle.gltf_read.proofs.Rows.{outputs_turned, tex_coords_turned, weights_turned, kind_turned}

-- ---- accessors that show the same

same_type : (a b : Accessor) → accessor.content a ≡ accessor.content b → type_of a ≡ type_of b
unfolding accessor
same_type a b same = ap (meant data_type) (ap (λ p. p.1.1.0) same)

same_dimensions : (a b : Accessor) → accessor.content a ≡ accessor.content b
    → dimensions_of a ≡ dimensions_of b
unfolding accessor
same_dimensions a b same = ap (meant dimensions) (ap (λ p. p.1.1.1.1.1.0) same)

same_kind : (kinds : Kinds) (a b : Accessor) → accessor.content a ≡ accessor.content b
    → kind_of kinds a ≡ kind_of kinds b
same_kind kinds a b same =
    ap (λ d. kinds d (type_of a)) (same_dimensions a b same)
    ∙ ap (λ t. kinds (dimensions_of b) t) (same_type a b same)

-- where the one document has an accessor, the other has one that shows the same
also_there : (x y : Option Accessor) → option_map accessor.content x ≡ option_map accessor.content y
    → (a : Accessor) → x ≡ Some a
    → (b : Accessor) × (y ≡ Some b) × (accessor.content a ≡ accessor.content b)
also_there None y same a is = absurd (cc is)
also_there (Some x) None same a is = absurd (cc same)
also_there (Some x) (Some y) same a is =
    let content : accessor.content x ≡ accessor.content y = cc same in
    let here : x ≡ a = cc is in
    (y, refl, rw (here) at content)

-- ---- readings

-- items of that type are read alike
abbrev pub ReadAlike : {X : Type 0} → Ghosts X → Type 0
ReadAlike {X} t =
    (r s : Root) → AreAlikeInEachMember r s
    → (answer : ℕ → Option (List ℕ)) (index : ℕ) (result : Option (List X))
    → ReadsAt t r answer index result → ReadsAt t s answer index result

-- the same of items of the type of that variant
abbrev pub RowAlike : {X E : Type 0} → {t : Ghosts X} → (Iter X t → E) → Type 0
RowAlike {X} {E} {t} variant = ReadAlike t

row_turned : {X E : Type 0} {t : Ghosts X} (variant : Iter X t → E) → RowAlike variant
    → (r s : Root) → AreAlikeInEachMember r s → (answer : ℕ → Option (List ℕ)) (i : ℕ)
    → Turns variant (ReadingAt r answer i) (ReadingAt s answer i)
row_turned variant row r s alike answer i read h =
    row r s alike answer i (option_map (λ c. c.items) read) h

-- where a table says the same of accessors that show the same, it says the same of documents
member_alike : {E : Type 0} (Are : Table E)
    → ((r s : Root) → AreAlikeInEachMember r s → (answer : ℕ → Option (List ℕ)) (i : ℕ)
    → (a b : Accessor) → accessor.content a ≡ accessor.content b → (result : Option E)
    → Are (ReadingAt r answer i) a result → Are (ReadingAt s answer i) b result)
    → IsAlike Are
member_alike Are turned r s alike answer None result h = h
member_alike Are turned r s alike answer (Some i) result h =
    let there = also_there (accessor_at r i) (accessor_at s i)
    (sym (slice_get-map accessor.content r.accessors.items i)
    ∙ ap (λ shown. slice_get shown i) alike.accessors
    ∙ slice_get-map accessor.content s.accessors.items i) h.0 h.1 in
    (there.0, there.1, turned r s alike answer i h.0 there.0 there.2 result h.2)

-- ---- tables

pub items_alike : {X : Type 0} {t : Ghosts X} → ReadAlike t → IsAlike (AreItems {X = X} {t = t})
items_alike {X} {t} row =
    member_alike (AreItems {X = X} {t = t}) (λ r s alike answer i a b same result h.
    row r s alike answer i _ h)

pub indices_alike : RowAlike index_.U8 → RowAlike index_.U16 → RowAlike index_.U32
    → IsAlike AreIndices
indices_alike u8 u16 u32 =
    member_alike AreIndices (λ r s alike answer i a b same result h.
    subst (λ type. AreIndicesOf (ReadingAt s answer i) type result) (same_type a b same)
    (indices_turned (ReadingAt r answer i) (ReadingAt s answer i) (type_of a) result
    (row_turned index_.U8 u8 r s alike answer i)
    (row_turned index_.U16 u16 r s alike answer i)
    (row_turned index_.U32 u32 r s alike answer i) h))

pub joints_alike : RowAlike joint.U8 → RowAlike joint.U16
    → IsAlike AreJoints
joints_alike u8 u16 =
    member_alike AreJoints (λ r s alike answer i a b same result h.
    subst (λ type. AreJointsOf (ReadingAt s answer i) type result) (same_type a b same)
    (joints_turned (ReadingAt r answer i) (ReadingAt s answer i) (type_of a) result
    (row_turned joint.U8 u8 r s alike answer i)
    (row_turned joint.U16 u16 r s alike answer i) h))

pub tex_coords_alike : RowAlike tex_coord.U8 → RowAlike tex_coord.U16 → RowAlike tex_coord.F32
    → IsAlike AreTexCoords
tex_coords_alike u8 u16 f32 =
    member_alike AreTexCoords (λ r s alike answer i a b same result h.
    subst (λ type. AreTexCoordsOf (ReadingAt s answer i) type result) (same_type a b same)
    (tex_coords_turned (ReadingAt r answer i) (ReadingAt s answer i) (type_of a) result
    (row_turned tex_coord.U8 u8 r s alike answer i)
    (row_turned tex_coord.U16 u16 r s alike answer i)
    (row_turned tex_coord.F32 f32 r s alike answer i) h))

pub weights_alike : RowAlike joint_weight.U8 → RowAlike joint_weight.U16 → RowAlike joint_weight.F32
    → IsAlike AreWeights
weights_alike u8 u16 f32 =
    member_alike AreWeights (λ r s alike answer i a b same result h.
    subst (λ type. AreWeightsOf (ReadingAt s answer i) type result) (same_type a b same)
    (weights_turned (ReadingAt r answer i) (ReadingAt s answer i) (type_of a) result
    (row_turned joint_weight.U8 u8 r s alike answer i)
    (row_turned joint_weight.U16 u16 r s alike answer i)
    (row_turned joint_weight.F32 f32 r s alike answer i) h))

pub colors_alike : RowAlike color.RgbU8
    → RowAlike color.RgbU16
    → RowAlike color.RgbF32
    → RowAlike color.RgbaU8
    → RowAlike color.RgbaU16
    → RowAlike color.RgbaF32
    → IsAlike AreColors
colors_alike u8 u16 f32 a8 a16 a32 =
    member_alike AreColors (λ r s alike answer i a b same result h.
    subst (λ shape. AreColorsOf (ReadingAt s answer i) shape (type_of b) result)
    (same_dimensions a b same)
    (subst (λ type. AreColorsOf (ReadingAt s answer i) (dimensions_of a) type result)
    (same_type a b same)
    (colors_turned (ReadingAt r answer i) (ReadingAt s answer i) (dimensions_of a) (type_of a)
    result
    (row_turned color.RgbU8 u8 r s alike answer i)
    (row_turned color.RgbU16 u16 r s alike answer i)
    (row_turned color.RgbF32 f32 r s alike answer i)
    (row_turned color.RgbaU8 a8 r s alike answer i)
    (row_turned color.RgbaU16 a16 r s alike answer i)
    (row_turned color.RgbaF32 a32 r s alike answer i) h)))

pub outputs_alike : RowAlike output.Translations
    → RowAlike rotation.I8
    → RowAlike rotation.U8
    → RowAlike rotation.I16
    → RowAlike rotation.U16
    → RowAlike rotation.F32
    → RowAlike target_weight.I8
    → RowAlike target_weight.U8
    → RowAlike target_weight.I16
    → RowAlike target_weight.U16
    → RowAlike target_weight.F32
    → (property : Option Property) → IsAlike (AreOutputs property)
outputs_alike v i8 u8 i16 u16 f32 wi8 wu8 wi16 wu16 wf32 property =
    member_alike (AreOutputs property) (λ r s alike answer i a b same result h.
    subst (λ type. AreOutputsOf property (ReadingAt s answer i) type result) (same_type a b same)
    (outputs_turned property (ReadingAt r answer i) (ReadingAt s answer i) (type_of a) result
    (row_turned output.Translations v r s alike answer i)
    (row_turned rotation.I8 i8 r s alike answer i)
    (row_turned rotation.U8 u8 r s alike answer i)
    (row_turned rotation.I16 i16 r s alike answer i)
    (row_turned rotation.U16 u16 r s alike answer i)
    (row_turned rotation.F32 f32 r s alike answer i)
    (row_turned target_weight.I8 wi8 r s alike answer i)
    (row_turned target_weight.U8 wu8 r s alike answer i)
    (row_turned target_weight.I16 wi16 r s alike answer i)
    (row_turned target_weight.U16 wu16 r s alike answer i)
    (row_turned target_weight.F32 wf32 r s alike answer i) h))

-- ---- where the items are of a type that is asked for

pub typed_items_alike : {X : Type 0} {t : Ghosts X} → ReadAlike t → (kinds : Kinds)
    → IsAlike (OfKind kinds (AreItems {X = X} {t = t}))
typed_items_alike {X} {t} row kinds =
    member_alike (OfKind kinds (AreItems {X = X} {t = t})) (λ r s alike answer i a b same result h.
    subst (λ kind. MatchOption kind (result ≡ None)
    (λ size. AreItems {X = X} {t = t} (ReadingAt s answer i) b result)) (same_kind kinds a b same)
    (kind_turned (kind_of kinds a) (result ≡ None) (λ read. row r s alike answer i _ read) h))

pub typed_indices_alike : RowAlike index_.U8 → RowAlike index_.U16 → RowAlike index_.U32
    → (kinds : Kinds) → IsAlike (OfKind kinds AreIndices)
typed_indices_alike u8 u16 u32 kinds =
    member_alike (OfKind kinds AreIndices) (λ r s alike answer i a b same result h.
    subst (λ kind. MatchOption kind (result ≡ None)
    (λ size. AreIndices (ReadingAt s answer i) b result)) (same_kind kinds a b same)
    (kind_turned (kind_of kinds a) (result ≡ None) (λ read.
    subst (λ type. AreIndicesOf (ReadingAt s answer i) type result) (same_type a b same)
    (indices_turned (ReadingAt r answer i) (ReadingAt s answer i) (type_of a) result
    (row_turned index_.U8 u8 r s alike answer i)
    (row_turned index_.U16 u16 r s alike answer i)
    (row_turned index_.U32 u32 r s alike answer i) read)) h))
