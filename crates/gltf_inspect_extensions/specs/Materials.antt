-- The extensions that are used in materials: "All extensions used in a glTF asset MUST be listed in
-- the top-level extensionsUsed array object" (glTF 2.0, section 3.12).
use Rattle.std.specs.Prelude.{codes}
use Rattle.gltf_json_material.specs.declared.extensions.material.Material as surface
use Rattle.gltf_json_material.specs.declared.extensions.material.PbrSpecularGlossiness.{
  PbrSpecularGlossiness,
}
use Rattle.gltf_json_material.specs.declared.extensions.material.Specular.{Specular}
use Rattle.gltf_json_material.specs.declared.extensions.material.Transmission.{Transmission}
use Rattle.gltf_json_material.specs.declared.extensions.material.Volume.{Volume}
use Rattle.gltf_json_material.specs.declared.extensions.texture.Info as moved
use Rattle.gltf_json_material.specs.declared.material.Material.{Material}
use Rattle.gltf_json_material.specs.declared.material.NormalTexture.{NormalTexture}
use Rattle.gltf_json_material.specs.declared.material.OcclusionTexture.{OcclusionTexture}
use Rattle.gltf_json_material.specs.declared.material.PbrMetallicRoughness.{PbrMetallicRoughness}
use Rattle.gltf_json_material.specs.declared.texture.Info.{Info}
use Rattle.gltf_findings.specs.Checks.{Checks, ◌&◌, member, optional_checks}
use Rattle.gltf_inspect_extensions.specs.Extended.{Names, entries_checks, known_checks}
use Rattle.gltf_inspect_extensions.specs.Extended.{others_checks, extensions_checks}

abbrev pub info_extensions_checks : Names → moved.Info → Checks
info_extensions_checks used e =
    known_checks used (codes "KHR_texture_transform") e.texture_transform
    & entries_checks used e.others.entries

abbrev pub info_checks : Names → Info → Checks
info_checks used r = extensions_checks (info_extensions_checks used) r.extensions

abbrev pub normal_checks : Names → NormalTexture → Checks
normal_checks used r = extensions_checks (others_checks used) r.extensions

abbrev pub occlusion_checks : Names → OcclusionTexture → Checks
occlusion_checks used r = extensions_checks (others_checks used) r.extensions

abbrev pub metallic_checks : Names → PbrMetallicRoughness → Checks
metallic_checks used r =
    extensions_checks (others_checks used) r.extensions
    & member (codes "baseColorTexture") (optional_checks (info_checks used) r.base_color_texture)
    & member (codes "metallicRoughnessTexture")
    (optional_checks (info_checks used) r.metallic_roughness_texture)

abbrev pub glossiness_checks : Names → PbrSpecularGlossiness → Checks
glossiness_checks used r =
    member (codes "diffuseTexture") (optional_checks (info_checks used) r.diffuse_texture)
    & member (codes "specularGlossinessTexture")
    (optional_checks (info_checks used) r.specular_glossiness_texture)

abbrev pub transmission_checks : Names → Transmission → Checks
transmission_checks used r =
    member (codes "transmissionTexture") (optional_checks (info_checks used) r.transmission_texture)

abbrev pub volume_checks : Names → Volume → Checks
volume_checks used r =
    member (codes "thicknessTexture") (optional_checks (info_checks used) r.thickness_texture)

abbrev pub specular_checks : Names → Specular → Checks
specular_checks used r =
    member (codes "specularTexture") (optional_checks (info_checks used) r.specular_texture)
    & member (codes "specularColorTexture")
    (optional_checks (info_checks used) r.specular_color_texture)

-- the extensions of a material by themselves
abbrev pub surface_names_checks : Names → surface.Material → Checks
surface_names_checks used e =
    known_checks used (codes "KHR_materials_pbrSpecularGlossiness") e.pbr_specular_glossiness
    & known_checks used (codes "KHR_materials_unlit") e.unlit
    & known_checks used (codes "KHR_materials_transmission") e.transmission
    & known_checks used (codes "KHR_materials_ior") e.ior
    & known_checks used (codes "KHR_materials_emissive_strength") e.emissive_strength
    & known_checks used (codes "KHR_materials_volume") e.volume
    & known_checks used (codes "KHR_materials_specular") e.specular
    & entries_checks used e.others.entries

-- and the extensions of the textures that they use
abbrev pub first_textures_checks : Names → surface.Material → Checks
first_textures_checks used e =
    member (codes "KHR_materials_pbrSpecularGlossiness")
    (optional_checks (glossiness_checks used) e.pbr_specular_glossiness)
    & member (codes "KHR_materials_transmission")
    (optional_checks (transmission_checks used) e.transmission)

abbrev pub later_textures_checks : Names → surface.Material → Checks
later_textures_checks used e =
    member (codes "KHR_materials_volume") (optional_checks (volume_checks used) e.volume)
    & member (codes "KHR_materials_specular") (optional_checks (specular_checks used) e.specular)

abbrev pub surface_checks : Names → surface.Material → Checks
surface_checks used e =
    surface_names_checks used e & first_textures_checks used e & later_textures_checks used e

abbrev pub textures_checks : Names → Material → Checks
textures_checks used r =
    member (codes "emissiveTexture") (optional_checks (info_checks used) r.emissive_texture)
    & member (codes "normalTexture") (optional_checks (normal_checks used) r.normal_texture)
    & member (codes "occlusionTexture")
    (optional_checks (occlusion_checks used) r.occlusion_texture)

abbrev pub material_checks : Names → Material → Checks
material_checks used r =
    extensions_checks (surface_checks used) r.extensions
    & textures_checks used r
    & member (codes "pbrMetallicRoughness")
    (optional_checks (metallic_checks used) r.pbr_metallic_roughness)
