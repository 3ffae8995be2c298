-- The numbers of a node's transformation (glTF 2.0, section 3.5.3, "Transformations").
use Rattle.std.specs.Prelude.{Option, Some}
use Rattle.std.specs.Option.{option_copied}
use Rattle.serde_json.specs.View.{view}
use Rattle.gltf_scene.specs.declared.scene.Transform.{Transform as TransformHandle}
use Rattle.gltf_scene.specs.declared.scene.Transform.TheVariants as handles
use Rattle.gltf_numbers.specs.Numbers.{given, exactly, numbers_or}
use Rattle.gltf_numbers.specs.declared.scene.Transform.{Transform}
use Rattle.gltf_numbers.specs.declared.scene.Transform.TheVariants.{Matrix, Decomposed}
use Rattle.gltf_numbers.specs.Defaults.{default_rotation, default_scale, default_translation}

abbrev pub transform_numbers : TransformHandle → Option Transform
transform_numbers (handles.Matrix matrix) =
    given (exactly 16 (view matrix.now)) (λ numbers. Some (Matrix numbers))
transform_numbers (handles.Decomposed translation rotation scale) =
    given (numbers_or 3 default_translation (option_copied translation)) (λ t.
    given (numbers_or 4 default_rotation (option_copied rotation)) (λ r.
    given (numbers_or 3 default_scale (option_copied scale)) (λ s.
    Some (Decomposed t r s))))
