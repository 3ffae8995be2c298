-- Uses of textures in extensions, row by row.
use Rattle.std.specs.Prelude.{codes}
use Rattle.gltf_json_record.specs.Kind.{Kind}
use Rattle.gltf_json_record.specs.Scalars.{n32, index}
use Rattle.gltf_json_record.specs.Table.{required, optional, defaulted, ◌&◌, table}
use Rattle.gltf_extension_records.specs.Numbers.{number, numbers}
use Rattle.gltf_extension_records.specs.declared.texture.TextureTransform.{TextureTransform}
use Rattle.gltf_extension_records.specs.declared.texture.TextureInfoExtensions.{
  TextureInfoExtensions,
}
use Rattle.gltf_extension_records.specs.declared.texture.TextureInfo.{TextureInfo}
use Rattle.gltf_extension_records.specs.declared.texture.NormalTextureInfo.{NormalTextureInfo}
use Rattle.gltf_extension_records.specs.declared.texture.TextureSource.{TextureSource}
use Rattle.gltf_numbers.specs.Defaults.{default_normal_scale, default_texture_offset}
use Rattle.gltf_numbers.specs.Defaults.{default_texture_rotation, default_texture_scale}

-- the extension KHR_texture_transform
unfoldable pub texture_transform : Kind TextureTransform
texture_transform = table
    (defaulted (codes "offset") (λ r. r.offset) default_texture_offset (numbers 2)
    & defaulted (codes "rotation") (λ r. r.rotation) default_texture_rotation number
    & defaulted (codes "scale") (λ r. r.scale) default_texture_scale (numbers 2)
    & optional (codes "texCoord") (λ r. r.tex_coord) n32)

-- the member `extensions` of the use of a texture
unfoldable pub texture_info_extensions : Kind TextureInfoExtensions
texture_info_extensions = table
    (optional (codes "KHR_texture_transform") (λ r. r.texture_transform) texture_transform)

-- glTF 2.0, section 5.30, "Texture Info"
unfoldable pub texture_info : Kind TextureInfo
texture_info = table
    (required (codes "index") (λ r. r.index) index
    & defaulted (codes "texCoord") (λ r. r.tex_coord) 0 n32
    & optional (codes "extensions") (λ r. r.extensions) texture_info_extensions)

-- glTF 2.0, section 5.20, "Material Normal Texture Info"
unfoldable pub normal_texture_info : Kind NormalTextureInfo
normal_texture_info = table
    (required (codes "index") (λ r. r.index) index
    & defaulted (codes "texCoord") (λ r. r.tex_coord) 0 n32
    & defaulted (codes "scale") (λ r. r.scale) default_normal_scale number
    & optional (codes "extensions") (λ r. r.extensions) texture_info_extensions)

-- the extensions KHR_texture_basisu and EXT_texture_webp
unfoldable pub texture_source : Kind TextureSource
texture_source = table
    (optional (codes "source") (λ r. r.source) index)
