-- Uses of textures, as C sees them (glTF 2.0, sections 5.20, 5.21 and 5.30, and
-- KHR_texture_transform).
use Rattle.std.specs.Prelude.{ℕ, nat_lt, List, Float, codes, is_some}
use Rattle.std.specs.Prelude.{Option, Some, None, unwrap_or, option_map, if◌then◌else◌}
use Rattle.std.specs.BTreeMap.{get_by_text}
use Rattle.std.specs.Option.{option_and_then}
use Rattle.serde_json.specs.Data.{Data}
use Rattle.serde_json.specs.Find.{get, as_number, as_object, as_u64}
use Rattle.serde_json.specs.View.{view}
use Rattle.gltf_json_material.specs.declared.extensions.texture.TextureTransform.{TextureTransform}
use Rattle.gltf_json_material.specs.declared.material.NormalTexture.{NormalTexture}
use Rattle.gltf_json_material.specs.declared.material.OcclusionTexture.{OcclusionTexture}
use Rattle.gltf_json_material.specs.declared.texture.Info.{Info}
use Rattle.gltf_json_record.specs.declared.extensions.Others.{Others}
use Rattle.gltf_numbers.specs.Numbers.{exactly, number_of}
use Rattle.gltf_c_scene.specs.Values.{numbers_else}
use Rattle.gltf_c_scene.specs.declared.numbers.TheConstants.{NONE}
use Rattle.gltf_c_look.specs.Numbers.{number_else}
use Rattle.gltf_c_look.specs.declared.number.TheConstants.{NO_SCALE}
use Rattle.gltf_c_look.specs.declared.uses.GltfTextureUse.{GltfTextureUse}
use Rattle.gltf_c_look.specs.declared.uses.Transform.{Transform}
use Rattle.gltf_numbers.specs.Defaults.{default_normal_scale, default_occlusion_strength}
use Rattle.gltf_numbers.specs.Defaults.{default_texture_offset, default_texture_rotation}
use Rattle.gltf_numbers.specs.Defaults.{default_texture_scale}

-- what stands where there is no transformation
abbrev pub no_transform : Transform
no_transform = record {
  is_there = 0;
  tex_coord = None;
  offset = default_texture_offset;
  rotation = default_texture_rotation;
  size = default_texture_scale;
}

-- a use of a texture: the set of coordinates is that of the transformation, where it names one
abbrev pub shown_use : ℕ → ℕ → Float → Transform → GltfTextureUse
shown_use texture tex_coord scale transform = record {
  texture = texture;
  tex_coord = unwrap_or transform.tex_coord tex_coord;
  has_transform = transform.is_there;
  scale = scale;
  offset = transform.offset;
  rotation = transform.rotation;
  size = transform.size;
}

abbrev pub no_use : GltfTextureUse
no_use = shown_use NONE 0 NO_SCALE no_transform

-- the transformation of a record that reads it
abbrev pub transform_of : TextureTransform → Transform
transform_of t = record {
  is_there = 1;
  tex_coord = t.tex_coord;
  offset = numbers_else 2 default_texture_offset t.offset;
  rotation = number_else default_texture_rotation t.rotation;
  size = numbers_else 2 default_texture_scale t.scale;
}

abbrev pub transform_if : Option TextureTransform → Transform
transform_if None = no_transform
transform_if (Some t) = transform_of t

abbrev pub known_transform : Info → Transform
known_transform i = transform_if (option_and_then (λ e. e.texture_transform) i.extensions)

abbrev pub info_use : Option Info → GltfTextureUse
info_use None = no_use
info_use (Some i) = shown_use i.index i.tex_coord NO_SCALE (known_transform i)

-- members of a JSON object, with what is meant where they are absent or something else
abbrev pub numbers_member : ℕ → List ℕ → List Float → Data → List Float
numbers_member n name default d = unwrap_or (option_and_then (exactly n) (get name d)) default

abbrev pub number_member : List ℕ → Float → Data → Float
number_member name default d = unwrap_or (option_and_then number_of (get name d)) default

abbrev pub whole_32 : ℕ → Option ℕ
whole_32 n = if nat_lt n 4294967296 then Some n else None

abbrev pub whole_member : List ℕ → Data → Option ℕ
whole_member name d =
    option_and_then whole_32 (option_and_then as_u64 (option_and_then as_number (get name d)))

-- the transformation that a JSON object is
abbrev pub transform_in : Data → Transform
transform_in d =
    if is_some (as_object d)
    then record {
      is_there = 1;
      tex_coord = whole_member (codes "texCoord") d;
      offset = numbers_member 2 (codes "offset") default_texture_offset d;
      rotation = number_member (codes "rotation") default_texture_rotation d;
      size = numbers_member 2 (codes "scale") default_texture_scale d;
    }
    else no_transform

abbrev pub transform_in_if : Option Data → Transform
transform_in_if None = no_transform
transform_in_if (Some d) = transform_in d

-- the transformation among extensions that are kept as JSON
abbrev pub unread_transform : Option Others → Transform
unread_transform extensions =
    transform_in_if (option_map view (option_and_then
    (λ e. get_by_text e.others (codes "KHR_texture_transform")) extensions))

abbrev pub normal_use : Option NormalTexture → GltfTextureUse
normal_use None = no_use
normal_use (Some n) =
    shown_use n.index n.tex_coord (number_else default_normal_scale n.scale) (unread_transform n.extensions)

abbrev pub occlusion_use : Option OcclusionTexture → GltfTextureUse
occlusion_use None = no_use
occlusion_use (Some o) =
    shown_use o.index o.tex_coord (number_else default_occlusion_strength o.strength)
    (unread_transform o.extensions)
