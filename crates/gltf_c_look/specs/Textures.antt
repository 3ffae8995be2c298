-- Textures and their samplers, as C sees them (glTF 2.0, sections 5.26 and 5.29).
use Rattle.std.specs.Prelude.{ℕ, [], ◌∷◌, slice_get, Option, unwrap_or}
use Rattle.std.specs.Prelude.{option_map}
use Rattle.std.specs.Option.{option_and_then}
use Rattle.gltf_json.specs.declared.root.Root.{Root}
use Rattle.gltf_json_record.specs.declared.validation.Checked.{Checked}
use Rattle.gltf_json_scene.specs.declared.texture.MagFilter.{MagFilter}
use Rattle.gltf_json_scene.specs.declared.texture.MagFilter.TheVariants as mag
use Rattle.gltf_json_scene.specs.declared.texture.MinFilter.{MinFilter}
use Rattle.gltf_json_scene.specs.declared.texture.MinFilter.TheVariants.{Nearest, Linear}
use Rattle.gltf_json_scene.specs.declared.texture.MinFilter.TheVariants.{NearestMipmapNearest}
use Rattle.gltf_json_scene.specs.declared.texture.MinFilter.TheVariants.{LinearMipmapNearest}
use Rattle.gltf_json_scene.specs.declared.texture.MinFilter.TheVariants.{NearestMipmapLinear}
use Rattle.gltf_json_scene.specs.declared.texture.MinFilter.TheVariants.{LinearMipmapLinear}
use Rattle.gltf_json_scene.specs.declared.texture.Sampler.{Sampler}
use Rattle.gltf_json_scene.specs.declared.texture.Texture.{Texture}
use Rattle.gltf_json_scene.specs.declared.texture.WrappingMode.{WrappingMode}
use Rattle.gltf_json_scene.specs.declared.texture.WrappingMode.TheVariants.{ClampToEdge}
use Rattle.gltf_json_scene.specs.declared.texture.WrappingMode.TheVariants.{MirroredRepeat, Repeat}
use Rattle.gltf_handles.specs.Sizes.{code_of}
use Rattle.gltf_c_scene.specs.Values.{index_or_none}
use Rattle.gltf_c_look.specs.declared.texture.GltfSampler.{GltfSampler}
use Rattle.gltf_c_look.specs.declared.texture.GltfTexture.{GltfTexture}

-- the numbers of filters and of ways of wrapping (sections 5.26.1 to 5.26.4)
abbrev pub mag_number : MagFilter → ℕ
mag_number mag.Nearest = 9728
mag_number mag.Linear = 9729

abbrev pub min_number : MinFilter → ℕ
min_number Nearest = 9728
min_number Linear = 9729
min_number NearestMipmapNearest = 9984
min_number LinearMipmapNearest = 9985
min_number NearestMipmapLinear = 9986
min_number LinearMipmapLinear = 9987

abbrev pub wrap_number : WrappingMode → ℕ
wrap_number ClampToEdge = 33071
wrap_number MirroredRepeat = 33648
wrap_number Repeat = 10497

-- 0 where there is no filter
abbrev pub mag_of : Option (Checked MagFilter) → ℕ
mag_of filter = unwrap_or (option_map (code_of mag_number) filter) 0

abbrev pub min_of : Option (Checked MinFilter) → ℕ
min_of filter = unwrap_or (option_map (code_of min_number) filter) 0

-- what C sees of a sampler (section 5.26)
abbrev pub shown_sampler : Sampler → GltfSampler
shown_sampler s = record {
  mag_filter = mag_of s.mag_filter;
  min_filter = min_of s.min_filter;
  wrap_s = code_of wrap_number s.wrap_s;
  wrap_t = code_of wrap_number s.wrap_t;
  reserved = 0 ∷ 0 ∷ [];
}

abbrev pub sampler_of : ℕ → Root → Option GltfSampler
sampler_of index r = option_map shown_sampler (slice_get r.samplers.items index)

-- no filters, and repeated both ways (section 3.8.4.1)
abbrev pub default_sampler : GltfSampler
default_sampler = record {
  mag_filter = 0;
  min_filter = 0;
  wrap_s = 10497;
  wrap_t = 10497;
  reserved = 0 ∷ 0 ∷ [];
}

abbrev pub sampler_or_default : Root → Option ℕ → GltfSampler
sampler_or_default r index =
    unwrap_or (option_and_then (λ i. sampler_of i r) index) default_sampler

-- what C sees of a texture (section 5.29)
abbrev pub shown_texture : Texture → GltfSampler → GltfTexture
shown_texture t s = record {
  image = t.source;
  sampler = index_or_none t.sampler;
  mag_filter = s.mag_filter;
  min_filter = s.min_filter;
  wrap_s = s.wrap_s;
  wrap_t = s.wrap_t;
  reserved = 0 ∷ 0 ∷ [];
}

abbrev pub texture_of : ℕ → Root → Option GltfTexture
texture_of index r =
    option_map (λ t. shown_texture t (sampler_or_default r t.sampler))
    (slice_get r.textures.items index)
