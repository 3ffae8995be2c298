-- The numbers of materials (glTF 2.0, section 3.9, "Materials") and of their extensions.
use Rattle.std.specs.Prelude.{Option, Some, Float, option_and_then}
use Rattle.gltf_json_material.specs.declared.material.Material.{Material as MaterialRecord}
use Rattle.gltf_json_material.specs.declared.material.PbrMetallicRoughness.{
  PbrMetallicRoughness as PbrMetallicRoughnessRecord,
}
use Rattle.gltf_json_material.specs.declared.material.NormalTexture.{NormalTexture as NormalRecord}
use Rattle.gltf_json_material.specs.declared.material.OcclusionTexture.{
  OcclusionTexture as OcclusionRecord,
}
use Rattle.gltf_json_material.specs.declared.extensions.material.PbrSpecularGlossiness.{
  PbrSpecularGlossiness as PbrSpecularGlossinessRecord,
}
use Rattle.gltf_json_material.specs.declared.extensions.material.Transmission.{
  Transmission as TransmissionRecord,
}
use Rattle.gltf_json_material.specs.declared.extensions.material.Volume.{Volume as VolumeRecord}
use Rattle.gltf_json_material.specs.declared.extensions.material.Specular.{
  Specular as SpecularRecord,
}
use Rattle.gltf_material.specs.Materials.{extension}
use Rattle.gltf_numbers.specs.Numbers.{given, number_if, number_or, numbers_or}
use Rattle.gltf_numbers.specs.declared.material.Material.{Material}
use Rattle.gltf_numbers.specs.declared.material.PbrMetallicRoughness.{PbrMetallicRoughness}
use Rattle.gltf_numbers.specs.declared.material.PbrSpecularGlossiness.{PbrSpecularGlossiness}
use Rattle.gltf_numbers.specs.declared.material.NormalTexture.{NormalTexture}
use Rattle.gltf_numbers.specs.declared.material.OcclusionTexture.{OcclusionTexture}
use Rattle.gltf_numbers.specs.declared.material.Transmission.{Transmission}
use Rattle.gltf_numbers.specs.declared.material.Volume.{Volume}
use Rattle.gltf_numbers.specs.declared.material.Specular.{Specular}
use Rattle.gltf_numbers.specs.Defaults.{default_alpha_cutoff, default_attenuation_color}
use Rattle.gltf_numbers.specs.Defaults.{default_base_color_factor, default_diffuse_factor}
use Rattle.gltf_numbers.specs.Defaults.{default_emissive_factor, default_emissive_strength}
use Rattle.gltf_numbers.specs.Defaults.{default_glossiness_factor, default_glossy_specular_factor}
use Rattle.gltf_numbers.specs.Defaults.{default_ior, default_metallic_factor, default_normal_scale}
use Rattle.gltf_numbers.specs.Defaults.{default_occlusion_strength, default_roughness_factor}
use Rattle.gltf_numbers.specs.Defaults.{default_specular_color_factor, default_specular_factor}
use Rattle.gltf_numbers.specs.Defaults.{default_thickness_factor, default_transmission_factor}

-- of a material (section 5.19)
abbrev pub material_numbers : MaterialRecord → Option Material
material_numbers m =
    given (number_or default_alpha_cutoff m.alpha_cutoff) (λ cutoff.
    given (numbers_or 3 default_emissive_factor m.emissive_factor) (λ emissive.
    Some (record { alpha_cutoff = cutoff; emissive_factor = emissive })))

-- its index of refraction (`KHR_materials_ior`)
abbrev pub ior_number : MaterialRecord → Option Float
ior_number m = number_or default_ior (option_and_then (λ e. e.ior) (extension (λ e. e.ior) m))

-- and the strength of its light (`KHR_materials_emissive_strength`)
abbrev pub emissive_strength_number : MaterialRecord → Option Float
emissive_strength_number m =
    number_or default_emissive_strength
    (option_and_then (λ e. e.emissive_strength) (extension (λ e. e.emissive_strength) m))

-- of metalness and roughness (section 5.22)
abbrev pub pbr_numbers : PbrMetallicRoughnessRecord → Option PbrMetallicRoughness
pbr_numbers p =
    given (numbers_or 4 default_base_color_factor p.base_color_factor) (λ color.
    given (number_or default_metallic_factor p.metallic_factor) (λ metallic.
    given (number_or default_roughness_factor p.roughness_factor) (λ roughness.
    Some (record {
      base_color_factor = color;
      metallic_factor = metallic;
      roughness_factor = roughness;
    }))))

-- of reflections and glossiness (KHR_materials_pbrSpecularGlossiness)
abbrev pub glossiness_numbers : PbrSpecularGlossinessRecord → Option PbrSpecularGlossiness
glossiness_numbers p =
    given (numbers_or 4 default_diffuse_factor p.diffuse_factor) (λ diffuse.
    given (numbers_or 3 default_glossy_specular_factor p.specular_factor) (λ specular.
    given (number_or default_glossiness_factor p.glossiness_factor) (λ glossiness.
    Some (record {
      diffuse_factor = diffuse;
      specular_factor = specular;
      glossiness_factor = glossiness;
    }))))

-- of a normal texture (section 5.20)
abbrev pub normal_numbers : NormalRecord → Option NormalTexture
normal_numbers n =
    given (number_or default_normal_scale n.scale) (λ scale. Some (record { scale = scale }))

-- of an occlusion texture (section 5.21)
abbrev pub occlusion_numbers : OcclusionRecord → Option OcclusionTexture
occlusion_numbers o =
    given (number_or default_occlusion_strength o.strength) (λ strength.
    Some (record { strength = strength }))

-- of a transmission (KHR_materials_transmission)
abbrev pub transmission_numbers : TransmissionRecord → Option Transmission
transmission_numbers t =
    given (number_or default_transmission_factor t.transmission_factor) (λ factor.
    Some (record { transmission_factor = factor }))

-- of a volume, whose attenuation may have no distance (KHR_materials_volume)
abbrev pub volume_numbers : VolumeRecord → Option Volume
volume_numbers v =
    given (number_or default_thickness_factor v.thickness_factor) (λ thickness.
    given (number_if v.attenuation_distance) (λ distance.
    given (numbers_or 3 default_attenuation_color v.attenuation_color) (λ color.
    Some (record {
      thickness_factor = thickness;
      attenuation_distance = distance;
      attenuation_color = color;
    }))))

-- of reflections (KHR_materials_specular)
abbrev pub specular_numbers : SpecularRecord → Option Specular
specular_numbers s =
    given (number_or default_specular_factor s.specular_factor) (λ factor.
    given (numbers_or 3 default_specular_color_factor s.specular_color_factor) (λ color.
    Some (record { specular_factor = factor; specular_color_factor = color })))
