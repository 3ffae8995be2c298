-- There is a reason exactly where nothing is read of the types that the standard has, by the rows of
-- the reader's table.
use Rattle.std.proofs.Common.{◌≡◌, ℕ, List, refl, sym, subst}
use Rattle.std.specs.Prelude.{Option, Some, None, option_map, is_some, true, MatchOption}
use Rattle.gltf_json.specs.declared.root.Root.{Root}
use Rattle.gltf_json_animation.specs.declared.animation.Property.{Property}
use Rattle.gltf_json_animation.specs.declared.animation.Property.TheVariants as animated
use Rattle.gltf_json_geometry.specs.declared.accessor.Accessor.{Accessor}
use Rattle.gltf_handles.specs.declared.accessor.DataType.{DataType}
use Rattle.gltf_handles.specs.declared.accessor.DataType.TheVariants.{I8, U8, I16, U16, F32}
use Rattle.gltf_handles.specs.declared.accessor.DataType.TheVariants.{U32}
use Rattle.gltf_handles.specs.declared.accessor.Dimensions.{Dimensions}
use Rattle.gltf_handles.specs.declared.accessor.Dimensions.TheVariants.{Scalar, Vec2, Vec3, Vec4}
use Rattle.gltf_handles.specs.declared.accessor.Dimensions.TheVariants.{Mat4}
use Rattle.gltf_items.specs.declared.item.Item.{Ghosts}
use Rattle.gltf_data.specs.Answers.{Results, AlwaysAnswers}
use Rattle.gltf_data.specs.declared.accessor_iter.Iter.{Iter}
use Rattle.gltf_casting.specs.declared.outputs.ReadOutputs.{ReadOutputs}
use Rattle.gltf_casting.specs.declared.outputs.ReadOutputs.TheVariants as output
use Rattle.gltf_casting.specs.declared.colors.ReadColors.{ReadColors}
use Rattle.gltf_casting.specs.declared.colors.ReadColors.TheVariants as color
use Rattle.gltf_casting.specs.declared.indices.ReadIndices.{ReadIndices}
use Rattle.gltf_casting.specs.declared.indices.ReadIndices.TheVariants as index_
use Rattle.gltf_casting.specs.declared.joints.ReadJoints.{ReadJoints}
use Rattle.gltf_casting.specs.declared.joints.ReadJoints.TheVariants as joint
use Rattle.gltf_casting.specs.declared.tex_coords.ReadTexCoords.{ReadTexCoords}
use Rattle.gltf_casting.specs.declared.tex_coords.ReadTexCoords.TheVariants as tex_coord
use Rattle.gltf_casting.specs.declared.weights.ReadWeights.{ReadWeights}
use Rattle.gltf_casting.specs.declared.weights.ReadWeights.TheVariants as joint_weight
use Rattle.gltf_casting.specs.declared.rotations.Rotations.{Rotations}
use Rattle.gltf_casting.specs.declared.rotations.Rotations.TheVariants as rotation
use Rattle.gltf_casting.specs.declared.morph_target_weights.MorphTargetWeights.{MorphTargetWeights}
use Rattle.gltf_casting.specs.declared.morph_target_weights.MorphTargetWeights.TheVariants as target_weight
use Rattle.gltf_read.specs.Colors.{AreRgb, AreRgba, AreColorsOf}
use Rattle.gltf_read.specs.Indices.{AreIndicesOf}
use Rattle.gltf_read.specs.Joints.{AreJointsOf}
use Rattle.gltf_read.specs.Kinds.{floats, index_components, joint_components, fractions, signed}
use Rattle.gltf_read.specs.Kinds.{three_floats, four_floats, times, matrices, indices, colors}
use Rattle.gltf_read.specs.Kinds.{tex_coords, joints, weights, rotations, target_weights, outputs}
use Rattle.gltf_read.specs.MorphTargetWeights.{AreMorphTargetWeightsOf}
use Rattle.gltf_read.specs.Outputs.{AreOutputsOf}
use Rattle.gltf_read.specs.Reading.{IsRead, AreItems, ItemsAs, ComesAs}
use Rattle.gltf_read.specs.Rotations.{AreRotationsOf}
use Rattle.gltf_read.specs.TexCoords.{AreTexCoordsOf}
use Rattle.gltf_read.specs.Weights.{AreWeightsOf}
use Rattle.gltf_access.specs.Why.{NoneIff, IsTried, IsOfType, IsWhy}
use Rattle.gltf_access.specs.declared.not_read.NotRead.{NotRead}
use Rattle.gltf_access.specs.declared.not_read.NotRead.TheVariants as reason

-- one thing exactly where the other
turned : {P Q : Type 0} (why : Option NotRead) → NoneIff why P → (P → Q) → (Q → P) → NoneIff why Q
turned None h to from = to h
turned (Some e) h to from = λ q. h (from q)

-- a reason, and nothing read
pub nothing_read : {E : Type 0} (why : Option NotRead) (e : NotRead) (read : Option E)
    → why ≡ Some e → read ≡ None → NoneIff why (is_some read ≡ true)
nothing_read why e read is none = rw (is, none) (λ same. absurd (cc same))

-- what comes as a variant is there exactly where it was read
come : {E O : Type 0} {Is : Option E → Type 0} (variant : E → O) (why : Option NotRead)
    (result : Option O)
    → ((read : Option E) → Is read → NoneIff why (is_some read ≡ true))
    → ComesAs variant Is result → NoneIff why (is_some result ≡ true)
come variant why result each h =
    let same : (read : Option _) → is_some (option_map variant read) ≡ is_some read =
    elim [ None ↦ refl | Some x ↦ refl ] in
    rw (h.told, same h.read) (each h.read h.is)

-- no such type, and nothing read
pub no_row : {E : Type 0} (a : Accessor) (why : Option NotRead) (result : Option E)
    → IsOfType a why → result ≡ None → NoneIff why (is_some result ≡ true)
no_row a why result type none = nothing_read why (reason.«Type» type.0 type.1) result type.4 none

-- the type of the items decides
pub by_kind : {E : Type 0} (kind : Option ℕ) (Gives : Results) (r : Root) (a : Accessor)
    (why : Option NotRead) (Read : Type 0) (result : Option E)
    → ((size : ℕ) → kind ≡ Some size → IsTried Gives size r a why → Read
    → NoneIff why (is_some result ≡ true))
    → IsWhy Gives r a kind why → MatchOption kind (result ≡ None) (λ size. Read)
    → NoneIff why (is_some result ≡ true)
by_kind None Gives r a why Read result each w h = no_row a why result w h
by_kind (Some size) Gives r a why Read result each w h = each size refl w h

-- ---- kinds of floats have one size

floats_size : (f32 : ℕ) (type : Option DataType) (size : ℕ) → floats f32 type ≡ Some size
    → f32 ≡ size
floats_size f32 (Some F32) size e = cc e
floats_size f32 _ size e = absurd (cc e)

pub three_size : (dimensions : Option Dimensions) (type : Option DataType) (size : ℕ)
    → three_floats dimensions type ≡ Some size → 12 ≡ size
three_size (Some Vec3) type size e = floats_size 12 type size e
three_size _ type size e = absurd (cc e)

pub four_size : (dimensions : Option Dimensions) (type : Option DataType) (size : ℕ)
    → four_floats dimensions type ≡ Some size → 16 ≡ size
four_size (Some Vec4) type size e = floats_size 16 type size e
four_size _ type size e = absurd (cc e)

pub time_size : (dimensions : Option Dimensions) (type : Option DataType) (size : ℕ)
    → times dimensions type ≡ Some size → 4 ≡ size
time_size (Some Scalar) type size e = floats_size 4 type size e
time_size _ type size e = absurd (cc e)

pub matrix_size : (dimensions : Option Dimensions) (type : Option DataType) (size : ℕ)
    → matrices dimensions type ≡ Some size → 64 ≡ size
matrix_size (Some Mat4) type size e = floats_size 64 type size e
matrix_size _ type size e = absurd (cc e)

module _ (Gives : Results) (r : Root) (a : Accessor) (why : Option NotRead)
    (answer : ℕ → Option (List ℕ)) (always : AlwaysAnswers Gives r answer) where
  pub items_read : {X : Type 0} {t : Ghosts X} (result : Option (Iter X t))
      → IsTried Gives t.size r a why → AreItems (IsRead Gives r a) a result
      → NoneIff why (is_some result ≡ true)
  items_read None tried h =
      turned why (tried.exact answer always) (λ p. absurd (h.alike answer always p))
      (λ same. absurd (cc same))
  items_read (Some x) tried h =
      turned why (tried.exact answer always) (λ p. refl) (λ same. (h.alike answer always).0)

  row : {X E : Type 0} {t : Ghosts X} (variant : Iter X t → E) (result : Option E)
      → IsTried Gives t.size r a why → ItemsAs variant (IsRead Gives r a) result
      → NoneIff why (is_some result ≡ true)
  row variant result tried h =
      come variant why result (λ read is. items_read read tried is) h

  indices_read : (type : Option DataType) (result : Option ReadIndices)
      → IsWhy Gives r a (index_components type) why → AreIndicesOf (IsRead Gives r a) type result
      → NoneIff why (is_some result ≡ true)
  indices_read (Some U8) result w h = row index_.U8 result w h
  indices_read (Some U16) result w h = row index_.U16 result w h
  indices_read (Some U32) result w h = row index_.U32 result w h
  indices_read _ result w h = no_row a why result w h

  joints_read : (type : Option DataType) (result : Option ReadJoints)
      → IsWhy Gives r a (joint_components type) why → AreJointsOf (IsRead Gives r a) type result
      → NoneIff why (is_some result ≡ true)
  joints_read (Some U8) result w h = row joint.U8 result w h
  joints_read (Some U16) result w h = row joint.U16 result w h
  joints_read _ result w h = no_row a why result w h

  tex_coords_read : (type : Option DataType) (result : Option ReadTexCoords)
      → IsWhy Gives r a (fractions 2 4 8 type) why
      → AreTexCoordsOf (IsRead Gives r a) type result → NoneIff why (is_some result ≡ true)
  tex_coords_read (Some U8) result w h = row tex_coord.U8 result w h
  tex_coords_read (Some U16) result w h = row tex_coord.U16 result w h
  tex_coords_read (Some F32) result w h = row tex_coord.F32 result w h
  tex_coords_read _ result w h = no_row a why result w h

  weights_read : (type : Option DataType) (result : Option ReadWeights)
      → IsWhy Gives r a (fractions 4 8 16 type) why
      → AreWeightsOf (IsRead Gives r a) type result → NoneIff why (is_some result ≡ true)
  weights_read (Some U8) result w h = row joint_weight.U8 result w h
  weights_read (Some U16) result w h = row joint_weight.U16 result w h
  weights_read (Some F32) result w h = row joint_weight.F32 result w h
  weights_read _ result w h = no_row a why result w h

  rgb_read : (type : Option DataType) (result : Option ReadColors)
      → IsWhy Gives r a (fractions 3 6 12 type) why
      → AreRgb (IsRead Gives r a) type result → NoneIff why (is_some result ≡ true)
  rgb_read (Some U8) result w h = row color.RgbU8 result w h
  rgb_read (Some U16) result w h = row color.RgbU16 result w h
  rgb_read (Some F32) result w h = row color.RgbF32 result w h
  rgb_read _ result w h = no_row a why result w h

  rgba_read : (type : Option DataType) (result : Option ReadColors)
      → IsWhy Gives r a (fractions 4 8 16 type) why
      → AreRgba (IsRead Gives r a) type result → NoneIff why (is_some result ≡ true)
  rgba_read (Some U8) result w h = row color.RgbaU8 result w h
  rgba_read (Some U16) result w h = row color.RgbaU16 result w h
  rgba_read (Some F32) result w h = row color.RgbaF32 result w h
  rgba_read _ result w h = no_row a why result w h

  colors_read : (dimensions : Option Dimensions) (type : Option DataType)
      (result : Option ReadColors) → IsWhy Gives r a (colors dimensions type) why
      → AreColorsOf (IsRead Gives r a) dimensions type result
      → NoneIff why (is_some result ≡ true)
  colors_read (Some Vec3) type result w h = rgb_read type result w h
  colors_read (Some Vec4) type result w h = rgba_read type result w h
  colors_read _ type result w h = no_row a why result w h

  rotations_read : (type : Option DataType) (result : Option Rotations)
      → IsWhy Gives r a (signed 4 4 8 8 16 type) why
      → AreRotationsOf (IsRead Gives r a) type result → NoneIff why (is_some result ≡ true)
  rotations_read (Some I8) result w h = row rotation.I8 result w h
  rotations_read (Some U8) result w h = row rotation.U8 result w h
  rotations_read (Some I16) result w h = row rotation.I16 result w h
  rotations_read (Some U16) result w h = row rotation.U16 result w h
  rotations_read (Some F32) result w h = row rotation.F32 result w h
  rotations_read _ result w h = no_row a why result w h

  target_weights_read : (type : Option DataType) (result : Option MorphTargetWeights)
      → IsWhy Gives r a (signed 1 1 2 2 4 type) why
      → AreMorphTargetWeightsOf (IsRead Gives r a) type result
      → NoneIff why (is_some result ≡ true)
  target_weights_read (Some I8) result w h = row target_weight.I8 result w h
  target_weights_read (Some U8) result w h = row target_weight.U8 result w h
  target_weights_read (Some I16) result w h = row target_weight.I16 result w h
  target_weights_read (Some U16) result w h = row target_weight.U16 result w h
  target_weights_read (Some F32) result w h = row target_weight.F32 result w h
  target_weights_read _ result w h = no_row a why result w h

  -- ---- by the dimensions

  -- of a type that the table has
  had : (kind : Option ℕ) (size : ℕ) → kind ≡ Some size → IsTried Gives size r a why
      → IsWhy Gives r a kind why
  had kind size e w = subst (λ k. IsWhy Gives r a k why) (sym e) w

  pub indices_explained : (dimensions : Option Dimensions) (type : Option DataType)
      (result : Option ReadIndices) (size : ℕ) → indices dimensions type ≡ Some size
      → IsTried Gives size r a why → AreIndicesOf (IsRead Gives r a) type result
      → NoneIff why (is_some result ≡ true)
  indices_explained (Some Scalar) type result size e w h =
      indices_read type result (had (index_components type) size e w) h
  indices_explained _ type result size e w h = absurd (cc e)

  pub colors_explained : (dimensions : Option Dimensions) (type : Option DataType)
      (result : Option ReadColors) (size : ℕ) → colors dimensions type ≡ Some size
      → IsTried Gives size r a why → AreColorsOf (IsRead Gives r a) dimensions type result
      → NoneIff why (is_some result ≡ true)
  colors_explained dimensions type result size e w h =
      colors_read dimensions type result (had (colors dimensions type) size e w) h

  pub tex_coords_explained : (dimensions : Option Dimensions) (type : Option DataType)
      (result : Option ReadTexCoords) (size : ℕ) → tex_coords dimensions type ≡ Some size
      → IsTried Gives size r a why → AreTexCoordsOf (IsRead Gives r a) type result
      → NoneIff why (is_some result ≡ true)
  tex_coords_explained (Some Vec2) type result size e w h =
      tex_coords_read type result (had (fractions 2 4 8 type) size e w) h
  tex_coords_explained _ type result size e w h = absurd (cc e)

  pub joints_explained : (dimensions : Option Dimensions) (type : Option DataType)
      (result : Option ReadJoints) (size : ℕ) → joints dimensions type ≡ Some size
      → IsTried Gives size r a why → AreJointsOf (IsRead Gives r a) type result
      → NoneIff why (is_some result ≡ true)
  joints_explained (Some Vec4) type result size e w h =
      joints_read type result (had (joint_components type) size e w) h
  joints_explained _ type result size e w h = absurd (cc e)

  pub weights_explained : (dimensions : Option Dimensions) (type : Option DataType)
      (result : Option ReadWeights) (size : ℕ) → weights dimensions type ≡ Some size
      → IsTried Gives size r a why → AreWeightsOf (IsRead Gives r a) type result
      → NoneIff why (is_some result ≡ true)
  weights_explained (Some Vec4) type result size e w h =
      weights_read type result (had (fractions 4 8 16 type) size e w) h
  weights_explained _ type result size e w h = absurd (cc e)

  rotations_explained : (dimensions : Option Dimensions) (type : Option DataType)
      (result : Option Rotations) (size : ℕ) → rotations dimensions type ≡ Some size
      → IsTried Gives size r a why → AreRotationsOf (IsRead Gives r a) type result
      → NoneIff why (is_some result ≡ true)
  rotations_explained (Some Vec4) type result size e w h =
      rotations_read type result (had (signed 4 4 8 8 16 type) size e w) h
  rotations_explained _ type result size e w h = absurd (cc e)

  target_weights_explained : (dimensions : Option Dimensions) (type : Option DataType)
      (result : Option MorphTargetWeights) (size : ℕ) → target_weights dimensions type ≡ Some size
      → IsTried Gives size r a why → AreMorphTargetWeightsOf (IsRead Gives r a) type result
      → NoneIff why (is_some result ≡ true)
  target_weights_explained (Some Scalar) type result size e w h =
      target_weights_read type result (had (signed 1 1 2 2 4 type) size e w) h
  target_weights_explained _ type result size e w h = absurd (cc e)

  -- of the size that the table has
  sized : (n size : ℕ) → n ≡ size → IsTried Gives size r a why → IsTried Gives n r a why
  sized n size same w = subst (λ k. IsTried Gives k r a why) (sym same) w

  pub outputs_explained : (property : Option Property) (dimensions : Option Dimensions)
      (type : Option DataType) (result : Option ReadOutputs) (size : ℕ)
      → outputs property dimensions type ≡ Some size → IsTried Gives size r a why
      → AreOutputsOf property (IsRead Gives r a) type result → NoneIff why (is_some result ≡ true)
  outputs_explained (Some animated.Translation) dimensions type result size e w h =
      row output.Translations result (sized 12 size (three_size dimensions type size e) w) h
  outputs_explained (Some animated.Rotation) dimensions type result size e w h =
      come output.Rotations why result
      (λ read is. rotations_explained dimensions type read size e w is) h
  outputs_explained (Some animated.Scale) dimensions type result size e w h =
      row output.Scales result (sized 12 size (three_size dimensions type size e) w) h
  outputs_explained (Some animated.MorphTargetWeights) dimensions type result size e w h =
      come output.MorphTargetWeights why result
      (λ read is. target_weights_explained dimensions type read size e w is) h
  outputs_explained None dimensions type result size e w h = absurd (cc e)
