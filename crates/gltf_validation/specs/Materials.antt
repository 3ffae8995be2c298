-- The rules of materials and their extensions (glTF 2.0, section 3.9), in the order of their
-- members.
use Rattle.std.specs.Prelude.{codes}
use Rattle.gltf_json_material.specs.declared.material.NormalTexture.{NormalTexture}
use Rattle.gltf_json_material.specs.declared.material.OcclusionTexture.{OcclusionTexture}
use Rattle.gltf_json_material.specs.declared.material.PbrMetallicRoughness.{PbrMetallicRoughness}
use Rattle.gltf_json_material.specs.declared.extensions.material.PbrSpecularGlossiness.{
  PbrSpecularGlossiness,
}
use Rattle.gltf_json_material.specs.declared.extensions.material.Transmission.{Transmission}
use Rattle.gltf_json_material.specs.declared.extensions.material.Volume.{Volume}
use Rattle.gltf_json_material.specs.declared.extensions.material.Specular.{Specular}
use Rattle.gltf_json_material.specs.declared.extensions.material.Material as extended
use Rattle.gltf_json_material.specs.declared.material.Material.{Material}
use Rattle.gltf_validation.specs.declared.counts.Counts.{Counts}
use Rattle.gltf_validation.specs.Rules.{Rules, ◌&◌}
use Rattle.gltf_validation.specs.Members.{member, code_rules, index_rules, optional_rules}
use Rattle.gltf_validation.specs.Textures.{info_rules}

abbrev pub normal_texture_rules : Counts → NormalTexture → Rules
normal_texture_rules c r =
    member (codes "index") (index_rules c.textures r.index)

abbrev pub occlusion_texture_rules : Counts → OcclusionTexture → Rules
occlusion_texture_rules c r =
    member (codes "index") (index_rules c.textures r.index)

abbrev pub pbr_metallic_roughness_rules : Counts → PbrMetallicRoughness → Rules
pbr_metallic_roughness_rules c r =
    member (codes "baseColorTexture") (optional_rules (info_rules c) r.base_color_texture)
    & member (codes "metallicRoughnessTexture")
    (optional_rules (info_rules c) r.metallic_roughness_texture)

abbrev pub pbr_specular_glossiness_rules : Counts → PbrSpecularGlossiness → Rules
pbr_specular_glossiness_rules c r =
    member (codes "diffuseTexture") (optional_rules (info_rules c) r.diffuse_texture)
    & member (codes "specularGlossinessTexture")
    (optional_rules (info_rules c) r.specular_glossiness_texture)

abbrev pub transmission_rules : Counts → Transmission → Rules
transmission_rules c r =
    member (codes "transmissionTexture") (optional_rules (info_rules c) r.transmission_texture)

abbrev pub volume_rules : Counts → Volume → Rules
volume_rules c r =
    member (codes "thicknessTexture") (optional_rules (info_rules c) r.thickness_texture)

abbrev pub specular_rules : Counts → Specular → Rules
specular_rules c r =
    member (codes "specularTexture") (optional_rules (info_rules c) r.specular_texture)
    & member (codes "specularColorTexture") (optional_rules (info_rules c) r.specular_color_texture)

abbrev pub material_extensions_rules : Counts → extended.Material → Rules
material_extensions_rules c r =
    member (codes "KHR_materials_pbrSpecularGlossiness")
    (optional_rules (pbr_specular_glossiness_rules c) r.pbr_specular_glossiness)
    & member (codes "KHR_materials_transmission")
    (optional_rules (transmission_rules c) r.transmission)
    & member (codes "KHR_materials_volume") (optional_rules (volume_rules c) r.volume)
    & member (codes "KHR_materials_specular") (optional_rules (specular_rules c) r.specular)

abbrev pub material_rules : Counts → Material → Rules
material_rules c r =
    member (codes "alphaMode") (code_rules r.alpha_mode)
    & member (codes "pbrMetallicRoughness")
    (optional_rules (pbr_metallic_roughness_rules c) r.pbr_metallic_roughness)
    & member (codes "normalTexture") (optional_rules (normal_texture_rules c) r.normal_texture)
    & member (codes "occlusionTexture")
    (optional_rules (occlusion_texture_rules c) r.occlusion_texture)
    & member (codes "emissiveTexture") (optional_rules (info_rules c) r.emissive_texture)
    & member (codes "extensions") (optional_rules (material_extensions_rules c) r.extensions)
