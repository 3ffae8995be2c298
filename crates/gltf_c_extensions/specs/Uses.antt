-- Uses of textures in extensions, as C sees them (glTF 2.0, sections 5.20 and 5.30, and
-- KHR_texture_transform).
use Rattle.std.specs.Prelude.{ℕ, Float, Option, Some, None, unwrap_or}
use Rattle.std.specs.Option.{option_and_then}
use Rattle.gltf_extension_records.specs.declared.texture.NormalTextureInfo.{NormalTextureInfo}
use Rattle.gltf_extension_records.specs.declared.texture.TextureInfo.{TextureInfo}
use Rattle.gltf_extension_records.specs.declared.texture.TextureInfoExtensions.{
  TextureInfoExtensions,
}
use Rattle.gltf_extension_records.specs.declared.texture.TextureTransform.{TextureTransform}
use Rattle.gltf_c_look.specs.declared.number.TheConstants.{NO_SCALE}
use Rattle.gltf_c_look.specs.declared.uses.GltfTextureUse.{GltfTextureUse}
use Rattle.gltf_c_scene.specs.declared.numbers.TheConstants.{NONE}
use Rattle.gltf_numbers.specs.Defaults.{default_texture_offset, default_texture_rotation}
use Rattle.gltf_numbers.specs.Defaults.{default_texture_scale}

-- the transformation among the extensions of a use
abbrev pub transform_of : Option TextureInfoExtensions → Option TextureTransform
transform_of extensions = option_and_then (λ e. e.texture_transform) extensions

-- a use of a texture: the set of coordinates is that of the transformation, where it names one
abbrev pub moved_use : ℕ → ℕ → Float → Option TextureTransform → GltfTextureUse
moved_use texture tex_coord scale None = record {
  texture = texture;
  tex_coord = tex_coord;
  has_transform = 0;
  scale = scale;
  offset = default_texture_offset;
  rotation = default_texture_rotation;
  size = default_texture_scale;
}
moved_use texture tex_coord scale (Some t) = record {
  texture = texture;
  tex_coord = unwrap_or t.tex_coord tex_coord;
  has_transform = 1;
  scale = scale;
  offset = t.offset;
  rotation = t.rotation;
  size = t.scale;
}

-- where no texture is named all has its default
abbrev pub no_use : GltfTextureUse
no_use = moved_use NONE 0 NO_SCALE None

abbrev pub info_use : Option TextureInfo → GltfTextureUse
info_use None = no_use
info_use (Some i) = moved_use i.index i.tex_coord NO_SCALE (transform_of i.extensions)

abbrev pub normal_use : Option NormalTextureInfo → GltfTextureUse
normal_use None = no_use
normal_use (Some n) = moved_use n.index n.tex_coord n.scale (transform_of n.extensions)
