-- Weights of morph targets (glTF 2.0, section 3.11, "Animations").
use Rattle.std.specs.Prelude.{◌≡◌, Option, Some, None}
use Rattle.gltf_handles.specs.declared.accessor.DataType.{DataType}
use Rattle.gltf_handles.specs.declared.accessor.DataType.TheVariants.{I8, U8, I16, U16, F32}
use Rattle.gltf_casting.specs.declared.morph_target_weights.MorphTargetWeights.{MorphTargetWeights}
use Rattle.gltf_casting.specs.declared.morph_target_weights.MorphTargetWeights.TheVariants as weight
use Rattle.gltf_read.specs.Reading.{Reading, Table, ItemsAs, type_of}

-- by the type of components
abbrev pub AreMorphTargetWeightsOf : Reading → Option DataType → Option MorphTargetWeights → Type 0
AreMorphTargetWeightsOf R (Some I8) result = ItemsAs weight.I8 R result
AreMorphTargetWeightsOf R (Some U8) result = ItemsAs weight.U8 R result
AreMorphTargetWeightsOf R (Some I16) result = ItemsAs weight.I16 R result
AreMorphTargetWeightsOf R (Some U16) result = ItemsAs weight.U16 R result
AreMorphTargetWeightsOf R (Some F32) result = ItemsAs weight.F32 R result
AreMorphTargetWeightsOf R _ result = result ≡ None

abbrev pub AreMorphTargetWeights : Table MorphTargetWeights
AreMorphTargetWeights R a result = AreMorphTargetWeightsOf R (type_of a) result
