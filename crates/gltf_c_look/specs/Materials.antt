-- Materials, as C sees them (glTF 2.0, section 3.9), with the extensions that the loader reads.
use Rattle.std.specs.Prelude.{ℕ, ◌+◌, ◌*◌, [], ◌∷◌, Float, slice_get, is_some, ◌==◌}
use Rattle.std.specs.Prelude.{Option, Some, None, unwrap_or, option_map, if◌then◌else◌}
use Rattle.std.specs.Option.{option_and_then}
use Rattle.gltf_json.specs.declared.root.Root.{Root}
use Rattle.gltf_json_material.specs.declared.extensions.material.EmissiveStrength.{EmissiveStrength}
use Rattle.gltf_json_material.specs.declared.extensions.material.Ior.{Ior}
use Rattle.gltf_json_material.specs.declared.extensions.material.Material as extended
use Rattle.gltf_json_material.specs.declared.extensions.material.PbrSpecularGlossiness.{
  PbrSpecularGlossiness,
}
use Rattle.gltf_json_material.specs.declared.extensions.material.Specular as specular_record
use Rattle.gltf_json_material.specs.declared.extensions.material.Transmission.{Transmission}
use Rattle.gltf_json_material.specs.declared.extensions.material.Volume as volume_record
use Rattle.gltf_json_material.specs.declared.material.AlphaMode.{AlphaMode}
use Rattle.gltf_json_material.specs.declared.material.AlphaMode.TheVariants.{Opaque, Mask, Blend}
use Rattle.gltf_json_material.specs.declared.material.Material.{Material}
use Rattle.gltf_json_material.specs.declared.material.PbrMetallicRoughness.{PbrMetallicRoughness}
use Rattle.gltf_handles.specs.Sizes.{code_of}
use Rattle.gltf_c_scene.specs.Values.{numbers_else, one_or_zero}
use Rattle.gltf_c_scene.specs.declared.numbers.TheConstants.{NONE}
use Rattle.gltf_c_look.specs.Numbers.{number_else}
use Rattle.gltf_c_look.specs.Uses.{no_use, info_use, normal_use, occlusion_use}
use Rattle.gltf_c_look.specs.declared.material.Core.{Core}
use Rattle.gltf_c_look.specs.declared.material.GltfMaterial.{GltfMaterial}
use Rattle.gltf_c_look.specs.declared.material.Glossiness.{Glossiness}
use Rattle.gltf_c_look.specs.declared.material.Specular.{Specular}
use Rattle.gltf_c_look.specs.declared.material.Surface.{Surface}
use Rattle.gltf_c_look.specs.declared.material.SurfaceTextures.{SurfaceTextures}
use Rattle.gltf_c_look.specs.declared.material.Volume.{Volume}
use Rattle.gltf_c_look.specs.declared.uses.GltfTextureUse.{GltfTextureUse}
use Rattle.gltf_c_look.specs.declared.material.TheConstants.{NO_DISTANCE}
use Rattle.gltf_numbers.specs.Defaults.{default_alpha_cutoff, default_attenuation_color}
use Rattle.gltf_numbers.specs.Defaults.{default_base_color_factor, default_diffuse_factor}
use Rattle.gltf_numbers.specs.Defaults.{default_emissive_factor, default_emissive_strength}
use Rattle.gltf_numbers.specs.Defaults.{default_glossiness_factor, default_glossy_specular_factor}
use Rattle.gltf_numbers.specs.Defaults.{default_ior, default_metallic_factor}
use Rattle.gltf_numbers.specs.Defaults.{default_roughness_factor, default_specular_color_factor}
use Rattle.gltf_numbers.specs.Defaults.{default_specular_factor, default_thickness_factor}
use Rattle.gltf_numbers.specs.Defaults.{default_transmission_factor}

-- metalness and roughness (section 5.22)
abbrev pub surface_of : Option PbrMetallicRoughness → Surface
surface_of None = record {
  base_color_factor = default_base_color_factor;
  metallic_factor = default_metallic_factor;
  roughness_factor = default_roughness_factor;
}
surface_of (Some p) = record {
  base_color_factor = numbers_else 4 default_base_color_factor p.base_color_factor;
  metallic_factor = number_else default_metallic_factor p.metallic_factor;
  roughness_factor = number_else default_roughness_factor p.roughness_factor;
}

abbrev pub surface_textures_of : Option PbrMetallicRoughness → SurfaceTextures
surface_textures_of None = record { base_color = no_use; metallic_roughness = no_use }
surface_textures_of (Some p) = record {
  base_color = info_use p.base_color_texture;
  metallic_roughness = info_use p.metallic_roughness_texture;
}

-- KHR_materials_pbrSpecularGlossiness
abbrev pub glossiness_of : Option PbrSpecularGlossiness → Glossiness
glossiness_of None = record {
  diffuse_factor = default_diffuse_factor;
  specular_glossiness_factor = default_glossy_specular_factor;
  glossiness_factor = default_glossiness_factor;
  diffuse = no_use;
  specular_glossiness = no_use;
}
glossiness_of (Some g) = record {
  diffuse_factor = numbers_else 4 default_diffuse_factor g.diffuse_factor;
  specular_glossiness_factor = numbers_else 3 default_glossy_specular_factor g.specular_factor;
  glossiness_factor = number_else default_glossiness_factor g.glossiness_factor;
  diffuse = info_use g.diffuse_texture;
  specular_glossiness = info_use g.specular_glossiness_texture;
}

-- KHR_materials_transmission
abbrev pub transmission_factor_of : Option Transmission → Float
transmission_factor_of None = default_transmission_factor
transmission_factor_of (Some t) = number_else default_transmission_factor t.transmission_factor

abbrev pub transmission_use_of : Option Transmission → GltfTextureUse
transmission_use_of None = no_use
transmission_use_of (Some t) = info_use t.transmission_texture

-- KHR_materials_ior
abbrev pub ior_of : Option Ior → Float
ior_of None = default_ior
ior_of (Some i) = number_else default_ior i.ior

-- KHR_materials_emissive_strength
abbrev pub emissive_strength_of : Option EmissiveStrength → Float
emissive_strength_of None = default_emissive_strength
emissive_strength_of (Some e) = number_else default_emissive_strength e.emissive_strength

-- KHR_materials_volume
abbrev pub volume_of : Option volume_record.Volume → Volume
volume_of None = record {
  thickness_factor = default_thickness_factor;
  attenuation_distance = NO_DISTANCE;
  attenuation_color = default_attenuation_color;
  thickness = no_use;
}
volume_of (Some v) = record {
  thickness_factor = number_else default_thickness_factor v.thickness_factor;
  attenuation_distance = number_else NO_DISTANCE v.attenuation_distance;
  attenuation_color = numbers_else 3 default_attenuation_color v.attenuation_color;
  thickness = info_use v.thickness_texture;
}

-- KHR_materials_specular
abbrev pub specular_of : Option specular_record.Specular → Specular
specular_of None = record {
  specular_factor = default_specular_factor;
  specular_color_factor = default_specular_color_factor;
  specular = no_use;
  specular_color = no_use;
}
specular_of (Some s) = record {
  specular_factor = number_else default_specular_factor s.specular_factor;
  specular_color_factor = numbers_else 3 default_specular_color_factor s.specular_color_factor;
  specular = info_use s.specular_texture;
  specular_color = info_use s.specular_color_texture;
}

-- what the document states of a material, as bits that are added up
abbrev pub extension_bits : extended.Material → ℕ
extension_bits e =
    one_or_zero (is_some e.unlit) + 2 * one_or_zero (is_some e.pbr_specular_glossiness)
    + 4 * one_or_zero (is_some e.transmission) + 8 * one_or_zero (is_some e.ior)
    + 16 * one_or_zero (is_some e.emissive_strength) + 32 * one_or_zero (is_some e.volume)
    + 64 * one_or_zero (is_some e.specular)

abbrev pub stated_bits : Material → ℕ
stated_bits m =
    unwrap_or (option_map extension_bits m.extensions) 0
    + 128 * one_or_zero (is_some m.pbr_metallic_roughness)

-- the number of an alpha mode (section 5.19.9)
abbrev pub alpha_mode_number : AlphaMode → ℕ
alpha_mode_number Opaque = 0
alpha_mode_number Mask = 1
alpha_mode_number Blend = 2

-- what is the same for all materials (section 5.19)
abbrev pub core_of : Material → Core
core_of m = record {
  alpha_mode = code_of alpha_mode_number m.alpha_mode;
  double_sided = one_or_zero m.double_sided;
  has = stated_bits m;
  reserved_word = 0;
  alpha_cutoff = number_else default_alpha_cutoff m.alpha_cutoff;
}

-- what C sees of a material
abbrev pub shown_material : Material → GltfMaterial
shown_material m = record {
  core = core_of m;
  surface = surface_of m.pbr_metallic_roughness;
  emissive_factor = numbers_else 3 default_emissive_factor m.emissive_factor;
  surface_textures = surface_textures_of m.pbr_metallic_roughness;
  normal = normal_use m.normal_texture;
  occlusion = occlusion_use m.occlusion_texture;
  emissive = info_use m.emissive_texture;
  glossiness = glossiness_of (option_and_then (λ e. e.pbr_specular_glossiness) m.extensions);
  transmission_factor =
      transmission_factor_of (option_and_then (λ e. e.transmission) m.extensions);
  ior = ior_of (option_and_then (λ e. e.ior) m.extensions);
  emissive_strength =
      emissive_strength_of (option_and_then (λ e. e.emissive_strength) m.extensions);
  transmission = transmission_use_of (option_and_then (λ e. e.transmission) m.extensions);
  volume = volume_of (option_and_then (λ e. e.volume) m.extensions);
  specular = specular_of (option_and_then (λ e. e.specular) m.extensions);
  reserved = 0 ∷ 0 ∷ 0 ∷ 0 ∷ 0 ∷ 0 ∷ 0 ∷ 0 ∷ [];
}

-- the material of a primitive that names none (section 3.9.6)
abbrev pub default_material : GltfMaterial
default_material = record {
  core = record {
    alpha_mode = 0;
    double_sided = 0;
    has = 0;
    reserved_word = 0;
    alpha_cutoff = default_alpha_cutoff;
  };
  surface = surface_of None;
  emissive_factor = default_emissive_factor;
  surface_textures = surface_textures_of None;
  normal = no_use;
  occlusion = no_use;
  emissive = no_use;
  glossiness = glossiness_of None;
  transmission_factor = default_transmission_factor;
  ior = default_ior;
  emissive_strength = default_emissive_strength;
  transmission = no_use;
  volume = volume_of None;
  specular = specular_of None;
  reserved = 0 ∷ 0 ∷ 0 ∷ 0 ∷ 0 ∷ 0 ∷ 0 ∷ 0 ∷ [];
}

abbrev pub material_of : ℕ → Root → Option GltfMaterial
material_of index r =
    if index == NONE then Some default_material
    else option_map shown_material (slice_get r.materials.items index)
