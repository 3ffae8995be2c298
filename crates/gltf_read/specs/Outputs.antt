-- What the keyframes of a channel hold, by what is animated (glTF 2.0, section 3.11, "Animations").
use Rattle.std.specs.Prelude.{◌≡◌, Option, Some, None}
use Rattle.gltf_json_animation.specs.declared.animation.Property.{Property}
use Rattle.gltf_json_animation.specs.declared.animation.Property.TheVariants as animated
use Rattle.gltf_handles.specs.declared.accessor.DataType.{DataType}
use Rattle.gltf_casting.specs.declared.outputs.ReadOutputs.{ReadOutputs}
use Rattle.gltf_casting.specs.declared.outputs.ReadOutputs.TheVariants as output
use Rattle.gltf_read.specs.MorphTargetWeights.{AreMorphTargetWeightsOf}
use Rattle.gltf_read.specs.Reading.{Reading, Table, ItemsAs, ComesAs, type_of}
use Rattle.gltf_read.specs.Rotations.{AreRotationsOf}

-- by the property, and then by the type of components; a code that is in no table has no property
abbrev pub AreOutputsOf : Option Property → Reading → Option DataType → Option ReadOutputs → Type 0
AreOutputsOf (Some animated.Translation) R type result = ItemsAs output.Translations R result
AreOutputsOf (Some animated.Rotation) R type result =
    ComesAs output.Rotations (AreRotationsOf R type) result
AreOutputsOf (Some animated.Scale) R type result = ItemsAs output.Scales R result
AreOutputsOf (Some animated.MorphTargetWeights) R type result =
    ComesAs output.MorphTargetWeights (AreMorphTargetWeightsOf R type) result
AreOutputsOf None R type result = result ≡ None

abbrev pub AreOutputs : Option Property → Table ReadOutputs
AreOutputs property R a result = AreOutputsOf property R (type_of a) result
