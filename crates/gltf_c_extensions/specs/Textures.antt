-- Other images of textures, as C sees them.
use Rattle.std.specs.Prelude.{ℕ, [], ◌∷◌, codes, Result}
use Rattle.gltf_json.specs.declared.root.Root.{Root}
use Rattle.gltf_extension_records.specs.Rules.{source_rules}
use Rattle.gltf_extension_records.specs.Textures.{texture_source}
use Rattle.gltf_extension_records.specs.declared.texture.TextureSource.{TextureSource}
use Rattle.gltf_c_scene.specs.Values.{index_or_none}
use Rattle.gltf_c_scene.specs.declared.kind.Kind.TheVariants.{Textures}
use Rattle.gltf_c_extensions.specs.Reading.{IsShown}
use Rattle.gltf_c_extensions.specs.declared.reading.Missing.{Missing}
use Rattle.gltf_c_extensions.specs.declared.texture.GltfTextureSource.{GltfTextureSource}

abbrev pub shown_texture_source : TextureSource → GltfTextureSource
shown_texture_source it = record {
  image = index_or_none it.source;
  reserved = 0 ∷ 0 ∷ 0 ∷ [];
}

-- KHR_texture_basisu
abbrev pub IsBasisu : ℕ → Root → Result GltfTextureSource Missing → Type 0
IsBasisu index r =
    IsShown texture_source source_rules shown_texture_source
    Textures (codes "KHR_texture_basisu") index r

-- EXT_texture_webp
abbrev pub IsWebp : ℕ → Root → Result GltfTextureSource Missing → Type 0
IsWebp index r =
    IsShown texture_source source_rules shown_texture_source
    Textures (codes "EXT_texture_webp") index r
