-- From the rows of a table to the table. A table of readers has a row for each type of component;
-- that of colours also splits on the dimensions, and that of keyframes on the property. Where a
-- reading `S` says what `R` says of each row's items (`Turns`), it says the same of what was read
-- by the table. There is one lemma for each table, by cases on the type; what has no row stays as
-- it is. `Answered` and `AlikeReadings` use them for the laws `tables_are_by_answers` and
-- `colors_are_alike` to `outputs_are_alike`.
use Rattle.std.specs.Prelude.{ℕ, Option, Some, None, MatchOption}
use Rattle.gltf_handles.specs.declared.accessor.DataType.{DataType}
use Rattle.gltf_handles.specs.declared.accessor.DataType.TheVariants.{I8, U8, I16, U16, F32}
use Rattle.gltf_handles.specs.declared.accessor.DataType.TheVariants.{U32}
use Rattle.gltf_handles.specs.declared.accessor.Dimensions.{Dimensions}
use Rattle.gltf_handles.specs.declared.accessor.Dimensions.TheVariants.{Vec3, Vec4}
use Rattle.gltf_items.specs.Counted.{CountedItems}
use Rattle.gltf_items.specs.declared.item.Item.{Ghosts}
use Rattle.gltf_data.specs.declared.accessor_iter.Iter.{Iter}
use Rattle.gltf_read.specs.Outputs.{AreOutputsOf}
use Rattle.gltf_read.specs.Reading.{Reading, ItemsAs, ComesAs}
use Rattle.gltf_read.specs.Colors.{AreRgb, AreRgba, AreColorsOf}
use Rattle.gltf_read.specs.Indices.{AreIndicesOf}
use Rattle.gltf_read.specs.Joints.{AreJointsOf}
use Rattle.gltf_read.specs.TexCoords.{AreTexCoordsOf}
use Rattle.gltf_read.specs.Weights.{AreWeightsOf}
use Rattle.gltf_read.specs.Rotations.{AreRotationsOf}
use Rattle.gltf_read.specs.MorphTargetWeights.{AreMorphTargetWeightsOf}
use Rattle.gltf_json_animation.specs.declared.animation.Property.{Property}
use Rattle.gltf_json_animation.specs.declared.animation.Property.TheVariants as animated
use Rattle.gltf_casting.specs.declared.outputs.ReadOutputs.{ReadOutputs}
use Rattle.gltf_casting.specs.declared.outputs.ReadOutputs.TheVariants as output
use Rattle.gltf_casting.specs.declared.colors.ReadColors.{ReadColors}
use Rattle.gltf_casting.specs.declared.colors.ReadColors.TheVariants as color
use Rattle.gltf_casting.specs.declared.indices.ReadIndices.{ReadIndices}
use Rattle.gltf_casting.specs.declared.indices.ReadIndices.TheVariants as index
use Rattle.gltf_casting.specs.declared.joints.ReadJoints.{ReadJoints}
use Rattle.gltf_casting.specs.declared.joints.ReadJoints.TheVariants as joint
use Rattle.gltf_casting.specs.declared.tex_coords.ReadTexCoords.{ReadTexCoords}
use Rattle.gltf_casting.specs.declared.tex_coords.ReadTexCoords.TheVariants as tex_coord
use Rattle.gltf_casting.specs.declared.weights.ReadWeights.{ReadWeights}
use Rattle.gltf_casting.specs.declared.weights.ReadWeights.TheVariants as joint_weight
use Rattle.gltf_casting.specs.declared.rotations.Rotations.{Rotations}
use Rattle.gltf_casting.specs.declared.rotations.Rotations.TheVariants as rotation
use Rattle.gltf_casting.specs.declared.morph_target_weights.MorphTargetWeights.{MorphTargetWeights}
use Rattle.gltf_casting.specs.declared.morph_target_weights.MorphTargetWeights.TheVariants as target_weight

-- of items of the type of that variant, the one reading says what the other says
abbrev pub Turns : {X E : Type 0} → {t : Ghosts X} → (Iter X t → E) → Reading → Reading → Type 0
Turns {X} {E} {t} variant R S = (read : Option (CountedItems X)) → R X t read → S X t read

-- what is said of an accessor where its items are of a type that is asked for
pub kind_turned : {A B : Type 0} (kind : Option ℕ) (none : Type 0) → (A → B)
    → MatchOption kind none (λ size. A) → MatchOption kind none (λ size. B)
kind_turned None none turns h = h
kind_turned (Some size) none turns h = turns h

pub items_turned : {X E : Type 0} {t : Ghosts X} (variant : Iter X t → E) (R S : Reading)
    (result : Option E) → Turns variant R S → ItemsAs variant R result → ItemsAs variant S result
items_turned variant R S result turns h =
    record { read = h.read; told = h.told; is = turns _ h.is }

pub indices_turned : (R S : Reading) (type : Option DataType) (result : Option ReadIndices)
    → Turns index.U8 R S
    → Turns index.U16 R S
    → Turns index.U32 R S
    → AreIndicesOf R type result → AreIndicesOf S type result
indices_turned R S (Some U8) result u8 u16 u32 h = items_turned index.U8 R S result u8 h
indices_turned R S (Some U16) result u8 u16 u32 h = items_turned index.U16 R S result u16 h
indices_turned R S (Some U32) result u8 u16 u32 h = items_turned index.U32 R S result u32 h
indices_turned R S _ result u8 u16 u32 h = h

pub joints_turned : (R S : Reading) (type : Option DataType) (result : Option ReadJoints)
    → Turns joint.U8 R S
    → Turns joint.U16 R S
    → AreJointsOf R type result → AreJointsOf S type result
joints_turned R S (Some U8) result u8 u16 h = items_turned joint.U8 R S result u8 h
joints_turned R S (Some U16) result u8 u16 h = items_turned joint.U16 R S result u16 h
joints_turned R S _ result u8 u16 h = h

pub tex_coords_turned : (R S : Reading) (type : Option DataType) (result : Option ReadTexCoords)
    → Turns tex_coord.U8 R S
    → Turns tex_coord.U16 R S
    → Turns tex_coord.F32 R S
    → AreTexCoordsOf R type result → AreTexCoordsOf S type result
tex_coords_turned R S (Some U8) result u8 u16 f32 h = items_turned tex_coord.U8 R S result u8 h
tex_coords_turned R S (Some U16) result u8 u16 f32 h = items_turned tex_coord.U16 R S result u16 h
tex_coords_turned R S (Some F32) result u8 u16 f32 h = items_turned tex_coord.F32 R S result f32 h
tex_coords_turned R S _ result u8 u16 f32 h = h

pub weights_turned : (R S : Reading) (type : Option DataType) (result : Option ReadWeights)
    → Turns joint_weight.U8 R S
    → Turns joint_weight.U16 R S
    → Turns joint_weight.F32 R S
    → AreWeightsOf R type result → AreWeightsOf S type result
weights_turned R S (Some U8) result u8 u16 f32 h = items_turned joint_weight.U8 R S result u8 h
weights_turned R S (Some U16) result u8 u16 f32 h = items_turned joint_weight.U16 R S result u16 h
weights_turned R S (Some F32) result u8 u16 f32 h = items_turned joint_weight.F32 R S result f32 h
weights_turned R S _ result u8 u16 f32 h = h

pub rotations_turned : (R S : Reading) (type : Option DataType) (result : Option Rotations)
    → Turns rotation.I8 R S
    → Turns rotation.U8 R S
    → Turns rotation.I16 R S
    → Turns rotation.U16 R S
    → Turns rotation.F32 R S
    → AreRotationsOf R type result → AreRotationsOf S type result
rotations_turned R S (Some I8) result i8 u8 i16 u16 f32 h = items_turned rotation.I8 R S result i8 h
rotations_turned R S (Some U8) result i8 u8 i16 u16 f32 h = items_turned rotation.U8 R S result u8 h
rotations_turned R S (Some I16) result i8 u8 i16 u16 f32 h =
    items_turned rotation.I16 R S result i16 h
rotations_turned R S (Some U16) result i8 u8 i16 u16 f32 h =
    items_turned rotation.U16 R S result u16 h
rotations_turned R S (Some F32) result i8 u8 i16 u16 f32 h =
    items_turned rotation.F32 R S result f32 h
rotations_turned R S _ result i8 u8 i16 u16 f32 h = h

pub morph_target_weights_turned : (R S : Reading) (type : Option DataType)
    (result : Option MorphTargetWeights)
    → Turns target_weight.I8 R S
    → Turns target_weight.U8 R S
    → Turns target_weight.I16 R S
    → Turns target_weight.U16 R S
    → Turns target_weight.F32 R S
    → AreMorphTargetWeightsOf R type result → AreMorphTargetWeightsOf S type result
morph_target_weights_turned R S (Some I8) result i8 u8 i16 u16 f32 h =
    items_turned target_weight.I8 R S result i8 h
morph_target_weights_turned R S (Some U8) result i8 u8 i16 u16 f32 h =
    items_turned target_weight.U8 R S result u8 h
morph_target_weights_turned R S (Some I16) result i8 u8 i16 u16 f32 h =
    items_turned target_weight.I16 R S result i16 h
morph_target_weights_turned R S (Some U16) result i8 u8 i16 u16 f32 h =
    items_turned target_weight.U16 R S result u16 h
morph_target_weights_turned R S (Some F32) result i8 u8 i16 u16 f32 h =
    items_turned target_weight.F32 R S result f32 h
morph_target_weights_turned R S _ result i8 u8 i16 u16 f32 h = h

rgb_turned : (R S : Reading) (type : Option DataType) (result : Option ReadColors)
    → Turns color.RgbU8 R S → Turns color.RgbU16 R S → Turns color.RgbF32 R S
    → AreRgb R type result → AreRgb S type result
rgb_turned R S (Some U8) result u8 u16 f32 h = items_turned color.RgbU8 R S result u8 h
rgb_turned R S (Some U16) result u8 u16 f32 h = items_turned color.RgbU16 R S result u16 h
rgb_turned R S (Some F32) result u8 u16 f32 h = items_turned color.RgbF32 R S result f32 h
rgb_turned R S _ result u8 u16 f32 h = h

rgba_turned : (R S : Reading) (type : Option DataType) (result : Option ReadColors)
    → Turns color.RgbaU8 R S → Turns color.RgbaU16 R S → Turns color.RgbaF32 R S
    → AreRgba R type result → AreRgba S type result
rgba_turned R S (Some U8) result u8 u16 f32 h = items_turned color.RgbaU8 R S result u8 h
rgba_turned R S (Some U16) result u8 u16 f32 h = items_turned color.RgbaU16 R S result u16 h
rgba_turned R S (Some F32) result u8 u16 f32 h = items_turned color.RgbaF32 R S result f32 h
rgba_turned R S _ result u8 u16 f32 h = h

pub colors_turned : (R S : Reading) (dimensions : Option Dimensions) (type : Option DataType)
    (result : Option ReadColors) → Turns color.RgbU8 R S → Turns color.RgbU16 R S
    → Turns color.RgbF32 R S → Turns color.RgbaU8 R S → Turns color.RgbaU16 R S
    → Turns color.RgbaF32 R S → AreColorsOf R dimensions type result
    → AreColorsOf S dimensions type result
colors_turned R S (Some Vec3) type result u8 u16 f32 a8 a16 a32 h =
    rgb_turned R S type result u8 u16 f32 h
colors_turned R S (Some Vec4) type result u8 u16 f32 a8 a16 a32 h =
    rgba_turned R S type result a8 a16 a32 h
colors_turned R S _ type result u8 u16 f32 a8 a16 a32 h = h

come_turned : {E O : Type 0} (variant : E → O) (Is Are : Option E → Type 0) (result : Option O)
    → ((read : Option E) → Is read → Are read) → ComesAs variant Is result
    → ComesAs variant Are result
come_turned variant Is Are result turns h =
    record { read = h.read; told = h.told; is = turns h.read h.is }

pub outputs_turned : (property : Option Property) (R S : Reading) (type : Option DataType)
    (result : Option ReadOutputs) → Turns output.Translations R S → Turns rotation.I8 R S
    → Turns rotation.U8 R S → Turns rotation.I16 R S → Turns rotation.U16 R S
    → Turns rotation.F32 R S → Turns target_weight.I8 R S → Turns target_weight.U8 R S
    → Turns target_weight.I16 R S → Turns target_weight.U16 R S → Turns target_weight.F32 R S
    → AreOutputsOf property R type result → AreOutputsOf property S type result
outputs_turned (Some animated.Translation) R S type result v i8 u8 i16 u16 f32 a b c d e h =
    items_turned output.Translations R S result v h
outputs_turned (Some animated.Rotation) R S type result v i8 u8 i16 u16 f32 a b c d e h =
    come_turned output.Rotations (AreRotationsOf R type) (AreRotationsOf S type) result
    (λ read. rotations_turned R S type read i8 u8 i16 u16 f32) h
outputs_turned (Some animated.Scale) R S type result v i8 u8 i16 u16 f32 a b c d e h =
    items_turned output.Scales R S result v h
outputs_turned (Some animated.MorphTargetWeights) R S type result v i8 u8 i16 u16 f32 a b c d e h =
    come_turned output.MorphTargetWeights (AreMorphTargetWeightsOf R type)
    (AreMorphTargetWeightsOf S type) result
    (λ read. morph_target_weights_turned R S type read a b c d e) h
outputs_turned None R S type result v i8 u8 i16 u16 f32 a b c d e h = h
