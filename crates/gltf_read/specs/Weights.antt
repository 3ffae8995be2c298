-- Weights of joints, four each (glTF 2.0, section 3.7.3.3, "Skinned Mesh Attributes",
-- `WEIGHTS_n`).
use Rattle.std.specs.Prelude.{◌≡◌, Option, Some, None}
use Rattle.gltf_handles.specs.declared.accessor.DataType.{DataType}
use Rattle.gltf_handles.specs.declared.accessor.DataType.TheVariants.{U8, U16, F32}
use Rattle.gltf_casting.specs.declared.weights.ReadWeights.{ReadWeights}
use Rattle.gltf_casting.specs.declared.weights.ReadWeights.TheVariants as weight
use Rattle.gltf_read.specs.Reading.{Reading, Table, ItemsAs, type_of}

-- by the type of components
abbrev pub AreWeightsOf : Reading → Option DataType → Option ReadWeights → Type 0
AreWeightsOf R (Some U8) result = ItemsAs weight.U8 R result
AreWeightsOf R (Some U16) result = ItemsAs weight.U16 R result
AreWeightsOf R (Some F32) result = ItemsAs weight.F32 R result
AreWeightsOf R _ result = result ≡ None

abbrev pub AreWeights : Table ReadWeights
AreWeights R a result = AreWeightsOf R (type_of a) result
