-- From the accessor that a getter gives to the index that the record has.
use Rattle.std.proofs.Common.{◌≡◌, ℕ, List, sym, ap, subst, ◌∙◌}
use Rattle.std.specs.Prelude.{Option, Some, None, is_some, true, option_map}
use Rattle.gltf_json.specs.declared.root.Root.{Root}
use Rattle.gltf_json_animation.specs.declared.animation.Animation.{Animation as AnimationRecord}
use Rattle.gltf_json_animation.specs.declared.animation.Channel.{Channel as ChannelRecord}
use Rattle.gltf_json_animation.specs.declared.animation.Sampler.{Sampler as SamplerRecord}
use Rattle.gltf_json_geometry.specs.declared.accessor.Accessor.{Accessor}
use Rattle.gltf_rules.specs.contracts.records.ValidRecords.TheImpl as valid
use Rattle.gltf_handles.specs.Accessors.{IsAccessor, accessor_handle}
use Rattle.gltf_handles.specs.Handle.{Handle}
use Rattle.gltf_handles.specs.Members.{Follows, IsCode}
use Rattle.gltf_handles.specs.declared.accessor.Accessor.{Accessor as AccessorHandle}
use Rattle.gltf_handles.specs.declared.accessor.DataType.{DataType}
use Rattle.gltf_handles.specs.declared.accessor.Dimensions.{Dimensions}
use Rattle.gltf_anim.specs.Animations.{IsSampler, IsTarget, sampler_handle, target_handle}
use Rattle.gltf_anim.specs.declared.animation.Sampler.{Sampler}
use Rattle.gltf_anim.specs.declared.animation.Target.{Target}
use Rattle.gltf_data.specs.Answers.{Results, AlwaysAnswers}
use Rattle.gltf_read.specs.Channels.{sampler_of, output_of, property_of}
use Rattle.gltf_read.specs.Colors.{AreColors}
use Rattle.gltf_read.specs.Indices.{AreIndices}
use Rattle.gltf_read.specs.Joints.{AreJoints}
use Rattle.gltf_read.specs.Kinds.{Kinds, OfKind, kind_of, three_floats, four_floats, indices}
use Rattle.gltf_read.specs.Kinds.{colors, tex_coords, joints, weights, outputs, attribute_kinds}
use Rattle.gltf_read.specs.Outputs.{AreOutputs}
use Rattle.gltf_read.specs.Reading.{Table, IsRead, AreItems, type_of, dimensions_of}
use Rattle.gltf_read.specs.Reading.{meant}
use Rattle.gltf_read.specs.TexCoords.{AreTexCoords}
use Rattle.gltf_read.specs.Weights.{AreWeights}
use Rattle.gltf_items.specs.declared.item.Item.{Ghosts}
use Rattle.gltf_json_animation.specs.declared.animation.Property.{Property}
use Rattle.gltf_json_geometry.specs.declared.semantic.Semantic.{Semantic}
use Rattle.gltf_json_geometry.specs.declared.semantic.Semantic.TheVariants as attributes
use Rattle.gltf_access.specs.Why.{NoneIff, IsTried, IsWhy, IsWhyMember, IsWhyKind, IsWhyAttribute}
use Rattle.gltf_access.specs.Why.{Explains, ExplainsAttribute}
use Rattle.gltf_access.specs.Why.{IsWhyDisplacement, ExplainsDisplacement}
use Rattle.gltf_access.specs.declared.not_read.NotRead.{NotRead}
use Rattle.gltf_access.specs.declared.not_read.NotRead.TheVariants as reason
use Rattle.gltf_access.proofs.Explained.{nothing_read, by_kind, items_read, three_size, four_size}
use Rattle.gltf_access.proofs.Explained.{indices_explained, joints_explained, colors_explained}
use Rattle.gltf_access.proofs.Explained.{tex_coords_explained, weights_explained}
use Rattle.gltf_access.proofs.Explained.{outputs_explained}

pub of_member : (kinds : Kinds) (Gives : Results) (r : Root) (index : Option ℕ)
    (accessor : AccessorHandle Root valid.ghosts) (why : Option NotRead)
    → Follows (IsAccessor r) index (Some accessor)
    → IsWhy Gives (accessor_handle accessor).document (accessor_handle accessor).json
    (kind_of kinds (accessor_handle accessor).json) why
    → IsWhyMember kinds Gives r index why
of_member kinds Gives r None accessor why is w = absurd is
of_member kinds Gives r (Some i) accessor why is w =
    let a = (accessor_handle accessor).json in
    (a, is.json, subst (λ d. IsWhy Gives d a (kind_of kinds a) why) is.document w)

pub of_none : (kinds : Kinds) (Gives : Results) (r : Root) (index : Option ℕ)
    (why : Option NotRead) → Follows (IsAccessor {D = Root} {G = valid.ghosts} r) index None
    → why ≡ Some reason.Absent → IsWhyMember kinds Gives r index why
of_none kinds Gives r None why is w = w
of_none kinds Gives r (Some i) why is w = absurd is

-- a reader's table is explained, of the types that the standard has
abbrev pub ExplainedBy : {E : Type 0} → Table E → Kinds → Results → Root → Type 0
ExplainedBy {E} Are kinds Gives r =
    (answer : ℕ → Option (List ℕ)) → AlwaysAnswers Gives r answer
    → (a : Accessor) (why : Option NotRead) (read : Option E) (size : ℕ)
    → kind_of kinds a ≡ Some size → IsTried Gives size r a why
    → Are (IsRead Gives r a) a read → NoneIff why (is_some read ≡ true)

pub explained : {E : Type 0} (Are : Table E) (kinds : Kinds) (Gives : Results) (r : Root)
    (index : Option ℕ) (why : Option NotRead) → ExplainedBy Are kinds Gives r
    → IsWhyMember kinds Gives r index why → Explains (OfKind kinds Are) Gives r index why
explained Are kinds Gives r None why each w answer always read h =
    nothing_read why reason.Absent read w h
explained Are kinds Gives r (Some i) why each w answer always read h =
    let same : h.0 ≡ w.0 = cc (h.1, w.1) in
    by_kind (kind_of kinds w.0) Gives r w.0 why (Are (IsRead Gives r w.0) w.0 read) read
    (each answer always w.0 why read) w.2
    (subst (λ a. OfKind kinds Are (IsRead Gives r a) a read) same h.2)

-- items of one size, of types that have no other
pub explained_items : {X : Type 0} (t : Ghosts X) (size : ℕ) (kinds : Kinds) (Gives : Results)
    (r : Root) (index : Option ℕ) (why : Option NotRead) → t.size ≡ size
    → ((d : Option Dimensions) (c : Option DataType) (n : ℕ) → kinds d c ≡ Some n → size ≡ n)
    → IsWhyMember kinds Gives r index why
    → Explains (OfKind kinds (AreItems {X = X} {t = t})) Gives r index why
explained_items {X} t size kinds Gives r index why same one w =
    explained (AreItems {X = X} {t = t}) kinds Gives r index why (λ answer always a why read n e
    tried h.
    items_read Gives r a why answer always read
    (subst (λ m. IsTried Gives m r a why)
    (sym (same ∙ one (dimensions_of a) (type_of a) n e)) tried) h) w

pub explained_indices : (Gives : Results) (r : Root) (index : Option ℕ) (why : Option NotRead)
    → IsWhyMember indices Gives r index why
    → Explains (OfKind indices AreIndices) Gives r index why
explained_indices Gives r index why w =
    explained AreIndices indices Gives r index why (λ answer always a why read n e tried h.
    indices_explained Gives r a why answer always (dimensions_of a) (type_of a) read n e tried h) w

pub explained_outputs : (property : Option Property) (Gives : Results) (r : Root)
    (index : Option ℕ) (why : Option NotRead)
    → IsWhyMember (outputs property) Gives r index why
    → Explains (OfKind (outputs property) (AreOutputs property)) Gives r index why
explained_outputs property Gives r index why w =
    explained (AreOutputs property) (outputs property) Gives r index why
    (λ answer always a why read n e tried h.
    outputs_explained Gives r a why answer always property (dimensions_of a) (type_of a) read n e
    tried h) w

pub explained_attribute : {X Y : Type 0} (t : Ghosts X) (u : Ghosts Y) (s : Semantic)
    (Gives : Results) (r : Root) (index : Option ℕ) (why : Option NotRead) → t.size ≡ 12
    → u.size ≡ 16 → IsWhyAttribute (attribute_kinds s) Gives r index why
    → ExplainsAttribute t u s Gives r index why
explained_attribute t u (attributes.Extras name) Gives r index why three four w = tt
explained_attribute t u attributes.Positions Gives r index why three four w =
    explained_items t 12 three_floats Gives r index why three three_size w
explained_attribute t u attributes.Normals Gives r index why three four w =
    explained_items t 12 three_floats Gives r index why three three_size w
explained_attribute t u attributes.Tangents Gives r index why three four w =
    explained_items u 16 four_floats Gives r index why four four_size w
explained_attribute t u (attributes.Colors set) Gives r index why three four w =
    explained AreColors colors Gives r index why (λ answer always a why read n e tried h.
    colors_explained Gives r a why answer always (dimensions_of a) (type_of a) read n e tried h) w
explained_attribute t u (attributes.TexCoords set) Gives r index why three four w =
    explained AreTexCoords tex_coords Gives r index why (λ answer always a why read n e tried h.
    tex_coords_explained Gives r a why answer always (dimensions_of a) (type_of a) read n e tried
    h) w
explained_attribute t u (attributes.Joints set) Gives r index why three four w =
    explained AreJoints joints Gives r index why (λ answer always a why read n e tried h.
    joints_explained Gives r a why answer always (dimensions_of a) (type_of a) read n e tried h) w
explained_attribute t u (attributes.Weights set) Gives r index why three four w =
    explained AreWeights weights Gives r index why (λ answer always a why read n e tried h.
    weights_explained Gives r a why answer always (dimensions_of a) (type_of a) read n e tried h) w

pub explained_displacement : {X : Type 0} (t : Ghosts X) (Gives : Results) (r : Root)
    (member : Option (Option ℕ)) (why : Option NotRead) → t.size ≡ 12
    → IsWhyDisplacement Gives r member why → ExplainsDisplacement t Gives r member why
explained_displacement t Gives r None why three w = tt
explained_displacement t Gives r (Some index) why three w =
    explained_items t 12 three_floats Gives r index why three three_size w

-- an attribute of an accessor
pub of_attribute : (kinds : Option Kinds) (Gives : Results) (r : Root) (index : Option ℕ)
    (accessor : AccessorHandle Root valid.ghosts) (why : Option NotRead)
    → Follows (IsAccessor r) index (Some accessor)
    → IsWhyKind kinds Gives (accessor_handle accessor).document (accessor_handle accessor).json why
    → IsWhyAttribute kinds Gives r index why
of_attribute None Gives r None accessor why is w = absurd is
of_attribute None Gives r (Some i) accessor why is w = w
of_attribute (Some kinds) Gives r index accessor why is w =
    of_member kinds Gives r index accessor why is w

pub of_no_attribute : (kinds : Option Kinds) (Gives : Results) (r : Root) (index : Option ℕ)
    (why : Option NotRead) → Follows (IsAccessor {D = Root} {G = valid.ghosts} r) index None
    → why ≡ Some reason.Absent → IsWhyAttribute kinds Gives r index why
of_no_attribute None Gives r None why is w = w
of_no_attribute None Gives r (Some i) why is w = absurd is
of_no_attribute (Some kinds) Gives r index why is w = of_none kinds Gives r index why is w

-- of the sampler's index for times, or of that for values
pub of_sampler : (index : SamplerRecord → ℕ) (kinds : Kinds) (Gives : Results)
    (a : Handle AnimationRecord) (c : ChannelRecord) (sampler : Sampler Root valid.ghosts)
    (accessor : AccessorHandle Root valid.ghosts) (why : Option NotRead)
    → IsSampler a c.sampler sampler
    → IsAccessor (sampler_handle sampler).animation.document (index (sampler_handle sampler).json)
    accessor
    → IsWhy Gives (accessor_handle accessor).document (accessor_handle accessor).json
    (kind_of kinds (accessor_handle accessor).json) why
    → IsWhyMember kinds Gives a.document (option_map index (sampler_of a.json c)) why
of_sampler index kinds Gives a c sampler accessor why is at w =
    let s = (sampler_handle sampler).json in
    let followed : Follows (IsAccessor a.document) (option_map index (sampler_of a.json c))
    (Some accessor) =
    subst (λ found. Follows (IsAccessor a.document) (option_map index found) (Some accessor))
    (sym is.json)
    (subst (λ h. IsAccessor h.document (index s) accessor) is.animation at) in
    of_member kinds Gives a.document (option_map index (sampler_of a.json c)) accessor why followed w

-- of that for values, by the property that is animated
pub of_output : (Gives : Results) (a : Handle AnimationRecord) (c : ChannelRecord)
    (target : Target Root valid.ghosts) (property : Property) (sampler : Sampler Root valid.ghosts)
    (accessor : AccessorHandle Root valid.ghosts) (why : Option NotRead)
    → IsTarget a c.target target → IsCode (target_handle target).json.path property
    → IsSampler a c.sampler sampler
    → IsAccessor (sampler_handle sampler).animation.document (sampler_handle sampler).json.output
    accessor
    → IsWhy Gives (accessor_handle accessor).document (accessor_handle accessor).json
    (kind_of (outputs (Some property)) (accessor_handle accessor).json) why
    → IsWhyMember (outputs (property_of c)) Gives a.document (output_of a.json c) why
of_output Gives a c target property sampler accessor why aims code is at w =
    let means : property_of c ≡ Some property =
    ap (λ x. meant (λ p. p) x.path) (sym aims.json) ∙ ap (meant (λ p. p)) code in
    subst (λ p. IsWhyMember (outputs p) Gives a.document (output_of a.json c) why)
    (sym means)
    (of_sampler (λ x. x.output) (outputs (Some property)) Gives a c sampler accessor why is at w)
