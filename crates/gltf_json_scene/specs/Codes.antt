-- The codes of cameras, lights and samplers.
use Rattle.std.specs.Prelude.{[], ◌∷◌, Option, codes}
use Rattle.serde_json.specs.Data.{Data}
use Rattle.gltf_json_record.specs.Scalars.{number_codes, word_codes}
use Rattle.gltf_json_record.specs.declared.validation.Checked.{Checked}
use Rattle.gltf_json_scene.specs.declared.camera.«Type» as camera
use Rattle.gltf_json_scene.specs.declared.texture.MagFilter as mag
use Rattle.gltf_json_scene.specs.declared.texture.MinFilter as min
use Rattle.gltf_json_scene.specs.declared.texture.WrappingMode as wrapping
use Rattle.gltf_json_scene.specs.declared.extensions.scene.khr_lights_punctual.«Type» as light

-- glTF 2.0, section 5.12.3, camera.type
abbrev pub camera_type : Data → Option (Checked camera.«Type»)
camera_type = word_codes
    ((codes "perspective", camera.TheVariants.Perspective)
    ∷ (codes "orthographic", camera.TheVariants.Orthographic)
    ∷ [])

-- glTF 2.0, section 5.26.1, sampler.magFilter
abbrev pub mag_filter : Data → Option (Checked mag.MagFilter)
mag_filter = number_codes
    ((9728, mag.TheVariants.Nearest)
    ∷ (9729, mag.TheVariants.Linear)
    ∷ [])

-- glTF 2.0, section 5.26.2, sampler.minFilter
abbrev pub min_filter : Data → Option (Checked min.MinFilter)
min_filter = number_codes
    ((9728, min.TheVariants.Nearest)
    ∷ (9729, min.TheVariants.Linear)
    ∷ (9984, min.TheVariants.NearestMipmapNearest)
    ∷ (9985, min.TheVariants.LinearMipmapNearest)
    ∷ (9986, min.TheVariants.NearestMipmapLinear)
    ∷ (9987, min.TheVariants.LinearMipmapLinear)
    ∷ [])

-- glTF 2.0, sections 5.26.3 and 5.26.4, sampler.wrapS and sampler.wrapT
abbrev pub wrapping_mode : Data → Option (Checked wrapping.WrappingMode)
wrapping_mode = number_codes
    ((33071, wrapping.TheVariants.ClampToEdge)
    ∷ (33648, wrapping.TheVariants.MirroredRepeat)
    ∷ (10497, wrapping.TheVariants.Repeat)
    ∷ [])

-- KHR_lights_punctual, light.type
abbrev pub light_type : Data → Option (Checked light.«Type»)
light_type = word_codes
    ((codes "directional", light.TheVariants.Directional)
    ∷ (codes "point", light.TheVariants.Point)
    ∷ (codes "spot", light.TheVariants.Spot)
    ∷ [])
