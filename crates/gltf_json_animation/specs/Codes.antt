-- The codes of animations.
use Rattle.std.specs.Prelude.{[], ◌∷◌, Option, codes}
use Rattle.serde_json.specs.Data.{Data}
use Rattle.gltf_json_record.specs.Scalars.{word_codes}
use Rattle.gltf_json_record.specs.declared.validation.Checked.{Checked}
use Rattle.gltf_json_animation.specs.declared.animation.Interpolation as between
use Rattle.gltf_json_animation.specs.declared.animation.Property as path

-- glTF 2.0, section 5.8.2, animation.sampler.interpolation
abbrev pub interpolation : Data → Option (Checked between.Interpolation)
interpolation = word_codes
    ((codes "LINEAR", between.TheVariants.Linear)
    ∷ (codes "STEP", between.TheVariants.Step)
    ∷ (codes "CUBICSPLINE", between.TheVariants.CubicSpline)
    ∷ [])

-- glTF 2.0, section 5.7.2, animation.channel.target.path
abbrev pub property : Data → Option (Checked path.Property)
property = word_codes
    ((codes "translation", path.TheVariants.Translation)
    ∷ (codes "rotation", path.TheVariants.Rotation)
    ∷ (codes "scale", path.TheVariants.Scale)
    ∷ (codes "weights", path.TheVariants.MorphTargetWeights)
    ∷ [])
