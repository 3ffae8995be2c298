-- Two documents that are readings of one JSON value have the same indices for what readers read:
-- `same_of_one_value` proves the law `readings_of_one_value_have_the_same_indices`. `AreOne` says
-- that two records are readings of one value. `elements`, an induction on the array, takes that
-- from lists to their elements; `within`, `found` and `mapped` take it to parts that may be absent,
-- by cases on both options. A member is named by its place in its record's table (`x.1.1.1.0` is
-- the third), so a new row in the middle of a table moves those after it.
use Rattle.std.proofs.Common.{◌≡◌, ℕ, zero, suc, List, [], ◌∷◌, Vec, Global, refl, sym, ap, subst}
use Rattle.std.proofs.Common.{◌∙◌, String}
use Rattle.std.specs.Prelude.{Option, Some, None, MatchOption, slice_get, option_map, ⊤, codes}
use Rattle.std.specs.Prelude.{option_and_then}
use Rattle.std.specs.BTreeMap.{BTreeMap, get_by}
use Rattle.std.proofs.lemmas.Iterator.Adapters.{option_map_id}
use Rattle.serde_json.specs.Data.{Data, Items, no_items, item}
use Rattle.serde_json.specs.Find.{as_array}
use Rattle.gltf_json_record.specs.Items.{AllRead}
use Rattle.gltf_json_record.specs.Kind.{Kind}
use Rattle.gltf_json_record.specs.Lists.{list}
use Rattle.gltf_json_record.specs.Member.{member_at}
use Rattle.gltf_json_animation.specs.Animations as animations
use Rattle.gltf_json_animation.specs.declared.animation.Animation.{Animation as AnimationRecord}
use Rattle.gltf_json_animation.specs.declared.animation.Channel.{Channel as ChannelRecord}
use Rattle.gltf_json_animation.specs.declared.animation.Sampler.{Sampler as SamplerRecord}
use Rattle.gltf_json_geometry.specs.AttributeKind.{attributes}
use Rattle.gltf_json_geometry.specs.Meshes.{mesh, primitive, morph_target}
use Rattle.gltf_json_geometry.specs.Semantics.{semantic_cmp}
use Rattle.gltf_json_geometry.specs.declared.mesh.Mesh.{Mesh as MeshRecord}
use Rattle.gltf_json_geometry.specs.declared.mesh.MorphTarget.{MorphTarget as MorphTargetRecord}
use Rattle.gltf_json_geometry.specs.declared.mesh.Primitive.{Primitive as PrimitiveRecord}
use Rattle.gltf_json_geometry.specs.declared.semantic.Semantic.{Semantic}
use Rattle.gltf_json_scene.specs.Skins.{skin}
use Rattle.gltf_json_scene.specs.declared.skin.Skin.{Skin as SkinRecord}
use Rattle.gltf_json.specs.Documents.{root}
use Rattle.gltf_json.specs.declared.root.Root.{Root}
use Rattle.gltf_read.specs.Channels.{input_of, output_of, property_of}
use Rattle.gltf_read.specs.Members.{HaveSameIndices, primitive_at, target_at}
use Rattle.gltf_read.specs.Reading.{meant}

-- ---- readings of one value

abbrev AreOne : {T : Type 0} → Kind T → T → T → Type 0
AreOne K x y = (d : Data) × K.is d x × K.is d y

-- neither is there, or both are readings of one value
abbrev AreOneIfAny : {T : Type 0} → Kind T → Option T → Option T → Type 0
AreOneIfAny K None None = ⊤
AreOneIfAny K None (Some y) = ⊥
AreOneIfAny K (Some x) None = ⊥
AreOneIfAny K (Some x) (Some y) = AreOne K x y

elements : {T : Type 0} (K : Kind T) (ds : Items) (xs ys : List T) → AllRead K.is ds xs
    → AllRead K.is ds ys → (i : ℕ) → AreOneIfAny K (slice_get xs i) (slice_get ys i)
elements K no_items [] [] x y i = tt
elements K no_items [] (b ∷ bs) x y i = absurd y
elements K no_items (a ∷ as_) ys x y i = absurd x
elements K (item d ds) [] ys x y i = absurd x
elements K (item d ds) (a ∷ as_) [] x y i = absurd y
elements K (item d ds) (a ∷ as_) (b ∷ bs) x y zero = (d, x.0, y.0)
elements K (item d ds) (a ∷ as_) (b ∷ bs) x y (suc i) = elements K ds as_ bs x.1 y.1 i

array_elements : {T : Type 0} (K : Kind T) (o : Option Items) (v w : Vec T Global)
    → MatchOption o ⊥ (λ ds. AllRead K.is ds v.items)
    → MatchOption o ⊥ (λ ds. AllRead K.is ds w.items)
    → (i : ℕ) → AreOneIfAny K (slice_get v.items i) (slice_get w.items i)
array_elements K None v w x y i = absurd x
array_elements K (Some ds) v w x y i = elements K ds v.items w.items x y i

-- of an array that has to be there
required_elements : {T : Type 0} (K : Kind T) (o : Option Data) (v w : Vec T Global)
    → MatchOption o ⊥ (λ e. (list K).is e v) → MatchOption o ⊥ (λ e. (list K).is e w)
    → (i : ℕ) → AreOneIfAny K (slice_get v.items i) (slice_get w.items i)
required_elements K None v w x y i = absurd x
required_elements K (Some e) v w x y i = array_elements K (as_array e) v w x y i

-- of an array that is empty where it is absent
listed_elements : {T : Type 0} (K : Kind T) (o : Option Data) (v w : Vec T Global)
    → MatchOption o (v.items ≡ []) (λ e. (list K).is e v)
    → MatchOption o (w.items ≡ []) (λ e. (list K).is e w)
    → (i : ℕ) → AreOneIfAny K (slice_get v.items i) (slice_get w.items i)
listed_elements {T} K None v w x y i =
    subst (λ xs. AreOneIfAny K (slice_get xs i) (slice_get w.items i)) (sym x)
    (subst (λ ys. AreOneIfAny {T = T} K None (slice_get ys i)) (sym y) tt)
listed_elements K (Some e) v w x y i = array_elements K (as_array e) v w x y i

-- what is the same of readings of one value is the same where they may be absent
found : {T X : Type 0} (K : Kind T) (f g : T → Option X)
    → ((x y : T) → AreOne K x y → f x ≡ g y) → (o p : Option T) → AreOneIfAny K o p
    → option_and_then f o ≡ option_and_then g p
found K f g same None None both = refl
found K f g same None (Some y) both = absurd both
found K f g same (Some x) None both = absurd both
found K f g same (Some x) (Some y) both = same x y both

mapped : {T X : Type 0} (K : Kind T) (f : T → X)
    → ((x y : T) → AreOne K x y → f x ≡ f y) → (o p : Option T) → AreOneIfAny K o p
    → option_map f o ≡ option_map f p
mapped K f same None None both = refl
mapped K f same None (Some y) both = absurd both
mapped K f same (Some x) None both = absurd both
mapped K f same (Some x) (Some y) both = ap (λ z. Some z) (same x y both)

within : {T U : Type 0} (K : Kind T) (L : Kind U) (f : T → Option U)
    → ((x y : T) → AreOne K x y → AreOneIfAny L (f x) (f y)) → (o p : Option T)
    → AreOneIfAny K o p → AreOneIfAny L (option_and_then f o) (option_and_then f p)
within K L f step None None both = tt
within K L f step None (Some y) both = absurd both
within K L f step (Some x) None both = absurd both
within K L f step (Some x) (Some y) both = step x y both

first : {A B : Type 0} {p q : A × B} → p ≡ q → p.0 ≡ q.0
first same = ap (λ p. p.0) same

rest : {A B : Type 0} {p q : A × B} → p ≡ q → p.1 ≡ q.1
rest same = ap (λ p. p.1) same

plain_option : {A : Type 0} {x y : Option A} → option_map (λ z. z) x ≡ option_map (λ z. z) y → x ≡ y
plain_option {x = x} {y = y} same = sym (option_map_id x) ∙ same ∙ option_map_id y

-- ---- the records of a document

meshes_are_one : (d : Data) (r s : Root) → root.is d r → root.is d s → (m : ℕ)
    → AreOneIfAny mesh (slice_get r.meshes.items m) (slice_get s.meshes.items m)
unfolding root
meshes_are_one d r s x y m =
    listed_elements mesh (member_at (codes "meshes") d) r.meshes s.meshes
    x.1.1.1.1.1.1.1.1.1.0 y.1.1.1.1.1.1.1.1.1.0 m

animations_are_one : (d : Data) (r s : Root) → root.is d r → root.is d s → (a : ℕ)
    → AreOneIfAny animations.animation (slice_get r.animations.items a)
    (slice_get s.animations.items a)
unfolding root
animations_are_one d r s x y a =
    listed_elements animations.animation (member_at (codes "animations") d) r.animations
    s.animations x.1.1.1.0 y.1.1.1.0 a

skins_are_one : (d : Data) (r s : Root) → root.is d r → root.is d s → (k : ℕ)
    → AreOneIfAny skin (slice_get r.skins.items k) (slice_get s.skins.items k)
unfolding root
skins_are_one d r s x y k =
    listed_elements skin (member_at (codes "skins") d) r.skins s.skins
    x.1.1.1.1.1.1.1.1.1.1.1.1.1.1.0 y.1.1.1.1.1.1.1.1.1.1.1.1.1.1.0 k

-- ---- meshes

primitives_within : (m n : MeshRecord) → AreOne mesh m n → (p : ℕ)
    → AreOneIfAny primitive (slice_get m.primitives.items p) (slice_get n.primitives.items p)
unfolding mesh
primitives_within m n both p =
    required_elements primitive (member_at (codes "primitives") both.0) m.primitives n.primitives
    both.1.1.0 both.2.1.0 p

same_known : (o : Option Data) (k l : BTreeMap Semantic ℕ) (u v : Vec (String Global) Global)
    → MatchOption o ⊥ (λ e. attributes.is e (record { known = k; unknown = u }))
    → MatchOption o ⊥ (λ e. attributes.is e (record { known = l; unknown = v })) → (s : Semantic)
    → get_by (semantic_cmp s) k ≡ get_by (semantic_cmp s) l
unfolding attributes
same_known None k l u v x y s = absurd x
same_known (Some e) k l u v x y s = x.known s ∙ sym (y.known s)

same_attribute : (p q : PrimitiveRecord) → AreOne primitive p q → (s : Semantic)
    → get_by (semantic_cmp s) p.attributes ≡ get_by (semantic_cmp s) q.attributes
unfolding primitive
same_attribute p q both s =
    same_known (member_at (codes "attributes") both.0) p.attributes q.attributes
    p.unknown_attributes q.unknown_attributes both.1.1.0 both.2.1.0 s

same_indices : (p q : PrimitiveRecord) → AreOne primitive p q → p.indices ≡ q.indices
unfolding primitive
same_indices p q both =
    plain_option (first (rest (primitive.alike both.0 p q both.1 both.2)))

targets_within : (p q : PrimitiveRecord) → AreOne primitive p q → (t : ℕ)
    → AreOneIfAny morph_target (slice_get p.targets.items t) (slice_get q.targets.items t)
unfolding primitive
targets_within p q both t =
    listed_elements morph_target (member_at (codes "targets") both.0) p.targets q.targets
    both.1.1.1.1.1.1.0 both.2.1.1.1.1.1.0 t

abbrev displacements : MorphTargetRecord → Option ℕ × Option ℕ × Option ℕ
displacements t = (t.positions, t.normals, t.tangents)

same_displacements : (t u : MorphTargetRecord) → AreOne morph_target t u
    → displacements t ≡ displacements u
unfolding morph_target
same_displacements t u both =
    let same = morph_target.alike both.0 t u both.1 both.2 in
    let positions : t.positions ≡ u.positions = plain_option (first same) in
    let normals : t.normals ≡ u.normals = plain_option (first (rest same)) in
    let tangents : t.tangents ≡ u.tangents = plain_option (rest (rest same)) in
    λ i. (positions i, normals i, tangents i)

same_matrices : (k l : SkinRecord) → AreOne skin k l
    → k.inverse_bind_matrices ≡ l.inverse_bind_matrices
unfolding skin
same_matrices k l both = plain_option (first (skin.alike both.0 k l both.1 both.2))

-- ---- animations

channels_within : (a b : AnimationRecord) → AreOne animations.animation a b → (c : ℕ)
    → AreOneIfAny animations.channel (slice_get a.channels.items c) (slice_get b.channels.items c)
unfolding animations.animation
channels_within a b both c =
    required_elements animations.channel (member_at (codes "channels") both.0) a.channels
    b.channels both.1.1.0 both.2.1.0 c

samplers_within : (a b : AnimationRecord) → AreOne animations.animation a b → (i : ℕ)
    → AreOneIfAny animations.sampler (slice_get a.samplers.items i) (slice_get b.samplers.items i)
unfolding animations.animation
samplers_within a b both i =
    required_elements animations.sampler (member_at (codes "samplers") both.0) a.samplers
    b.samplers both.1.1.1.0 both.2.1.1.0 i

same_sampler : (c e : ChannelRecord) → AreOne animations.channel c e → c.sampler ≡ e.sampler
unfolding animations.channel
same_sampler c e both = first (animations.channel.alike both.0 c e both.1 both.2)

same_property : (c e : ChannelRecord) → AreOne animations.channel c e
    → property_of c ≡ property_of e
unfolding animations.channel animations.target
same_property c e both =
    let same = animations.channel.alike both.0 c e both.1 both.2 in
    ap (meant (λ p. p)) (first (rest (first (rest same))))

same_input : (x y : SamplerRecord) → AreOne animations.sampler x y → x.input ≡ y.input
unfolding animations.sampler
same_input x y both = first (animations.sampler.alike both.0 x y both.1 both.2)

same_output : (x y : SamplerRecord) → AreOne animations.sampler x y → x.output ≡ y.output
unfolding animations.sampler
same_output x y both =
    first (rest (rest (animations.sampler.alike both.0 x y both.1 both.2)))

-- a member of the sampler that a channel names
by_sampler : (f : SamplerRecord → ℕ)
    → ((x y : SamplerRecord) → AreOne animations.sampler x y → f x ≡ f y)
    → (a b : AnimationRecord) → AreOne animations.animation a b
    → (c e : ChannelRecord) → AreOne animations.channel c e
    → option_map f (slice_get a.samplers.items c.sampler)
    ≡ option_map f (slice_get b.samplers.items e.sampler)
by_sampler f same a b both c e ones =
    subst (λ i. option_map f (slice_get a.samplers.items c.sampler)
    ≡ option_map f (slice_get b.samplers.items i)) (same_sampler c e ones)
    (mapped animations.sampler f same (slice_get a.samplers.items c.sampler)
    (slice_get b.samplers.items c.sampler) (samplers_within a b both c.sampler))

-- what is the same of channels is the same of channel c of animation a
by_channel : {X : Type 0} (f : AnimationRecord → ChannelRecord → Option X)
    → ((v w : AnimationRecord) → AreOne animations.animation v w → (c e : ChannelRecord)
    → AreOne animations.channel c e → f v c ≡ f w e)
    → (d : Data) (r s : Root) → root.is d r → root.is d s → (a c : ℕ)
    → option_and_then (λ z. option_and_then (f z) (slice_get z.channels.items c))
    (slice_get r.animations.items a)
    ≡ option_and_then (λ z. option_and_then (f z) (slice_get z.channels.items c))
    (slice_get s.animations.items a)
by_channel f same d r s x y a c =
    found animations.animation
    (λ z. option_and_then (f z) (slice_get z.channels.items c))
    (λ z. option_and_then (f z) (slice_get z.channels.items c))
    (λ v w both. found animations.channel (f v) (f w) (same v w both)
    (slice_get v.channels.items c) (slice_get w.channels.items c) (channels_within v w both c))
    (slice_get r.animations.items a) (slice_get s.animations.items a)
    (animations_are_one d r s x y a)

-- ---- the whole

pub same_of_one_value : (d : Data) (r s : Root) → root.is d r → root.is d s → HaveSameIndices r s
same_of_one_value d r s x y =
    let primitives : (m p : ℕ) → AreOneIfAny primitive (primitive_at r m p) (primitive_at s m p) =
    λ m p. within mesh primitive (λ z. slice_get z.primitives.items p)
    (λ a b both. primitives_within a b both p) (slice_get r.meshes.items m)
    (slice_get s.meshes.items m) (meshes_are_one d r s x y m) in
    let targets : (m p t : ℕ) → AreOneIfAny morph_target (target_at r m p t) (target_at s m p t) =
    λ m p t. within primitive morph_target (λ z. slice_get z.targets.items t)
    (λ a b both. targets_within a b both t) (primitive_at r m p) (primitive_at s m p)
    (primitives m p) in
    record {
      attributes = λ m p a. found primitive (λ z. get_by (semantic_cmp a) z.attributes)
          (λ z. get_by (semantic_cmp a) z.attributes) (λ v w both. same_attribute v w both a)
          (primitive_at r m p) (primitive_at s m p) (primitives m p);
      indices = λ m p. found primitive (λ z. z.indices) (λ z. z.indices) same_indices
          (primitive_at r m p) (primitive_at s m p) (primitives m p);
      displacements = λ m p t. mapped morph_target displacements same_displacements
          (target_at r m p t) (target_at s m p t) (targets m p t);
      matrices = λ k. found skin (λ z. z.inverse_bind_matrices) (λ z. z.inverse_bind_matrices)
          same_matrices (slice_get r.skins.items k) (slice_get s.skins.items k)
          (skins_are_one d r s x y k);
      inputs = by_channel input_of (by_sampler (λ z. z.input) same_input) d r s x y;
      outputs = by_channel output_of (by_sampler (λ z. z.output) same_output) d r s x y;
      properties = by_channel (λ z. property_of) (λ v w both. same_property) d r s x y;
    }
