-- The codes of materials.
use Rattle.std.specs.Prelude.{[], ◌∷◌, Option, codes}
use Rattle.serde_json.specs.Data.{Data}
use Rattle.gltf_json_record.specs.Scalars.{word_codes}
use Rattle.gltf_json_record.specs.declared.validation.Checked.{Checked}
use Rattle.gltf_json_material.specs.declared.material.AlphaMode as mode

-- glTF 2.0, section 5.19, material.alphaMode
abbrev pub alpha_mode : Data → Option (Checked mode.AlphaMode)
alpha_mode = word_codes
    ((codes "OPAQUE", mode.TheVariants.Opaque)
    ∷ (codes "MASK", mode.TheVariants.Mask)
    ∷ (codes "BLEND", mode.TheVariants.Blend)
    ∷ [])
