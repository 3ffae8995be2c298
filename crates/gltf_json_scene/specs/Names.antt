-- The names that the standard gives the codes that are numbers.
use Rattle.std.specs.Prelude.{ℕ, List, codes}
use Rattle.gltf_json_scene.specs.declared.texture.MagFilter as mag
use Rattle.gltf_json_scene.specs.declared.texture.MinFilter as min
use Rattle.gltf_json_scene.specs.declared.texture.WrappingMode as wrapping

-- glTF 2.0, section 5.26.1, sampler.magFilter
abbrev pub mag_filter_name : mag.MagFilter → List ℕ
mag_filter_name mag.TheVariants.Nearest = codes "NEAREST"
mag_filter_name mag.TheVariants.Linear = codes "LINEAR"

-- glTF 2.0, section 5.26.2, sampler.minFilter
abbrev pub min_filter_name : min.MinFilter → List ℕ
min_filter_name min.TheVariants.Nearest = codes "NEAREST"
min_filter_name min.TheVariants.Linear = codes "LINEAR"
min_filter_name min.TheVariants.NearestMipmapNearest = codes "NEAREST_MIPMAP_NEAREST"
min_filter_name min.TheVariants.LinearMipmapNearest = codes "LINEAR_MIPMAP_NEAREST"
min_filter_name min.TheVariants.NearestMipmapLinear = codes "NEAREST_MIPMAP_LINEAR"
min_filter_name min.TheVariants.LinearMipmapLinear = codes "LINEAR_MIPMAP_LINEAR"

-- glTF 2.0, sections 5.26.3 and 5.26.4, sampler.wrapS and sampler.wrapT
abbrev pub wrapping_mode_name : wrapping.WrappingMode → List ℕ
wrapping_mode_name wrapping.TheVariants.ClampToEdge = codes "CLAMP_TO_EDGE"
wrapping_mode_name wrapping.TheVariants.MirroredRepeat = codes "MIRRORED_REPEAT"
wrapping_mode_name wrapping.TheVariants.Repeat = codes "REPEAT"
