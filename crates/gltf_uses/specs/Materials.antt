-- The indices in materials and their extensions (glTF 2.0, section 3.9), in the order of their
-- members.
use Rattle.std.specs.Prelude.{codes}
use Rattle.gltf_json_material.specs.declared.extensions.material.Material as extended
use Rattle.gltf_json_material.specs.declared.extensions.material.PbrSpecularGlossiness.{
  PbrSpecularGlossiness,
}
use Rattle.gltf_json_material.specs.declared.extensions.material.Specular.{Specular}
use Rattle.gltf_json_material.specs.declared.extensions.material.Transmission.{Transmission}
use Rattle.gltf_json_material.specs.declared.extensions.material.Volume.{Volume}
use Rattle.gltf_json_material.specs.declared.material.Material.{Material}
use Rattle.gltf_json_material.specs.declared.material.NormalTexture.{NormalTexture}
use Rattle.gltf_json_material.specs.declared.material.OcclusionTexture.{OcclusionTexture}
use Rattle.gltf_json_material.specs.declared.material.PbrMetallicRoughness.{PbrMetallicRoughness}
use Rattle.gltf_json_material.specs.declared.texture.Info.{Info}
use Rattle.gltf_uses.specs.declared.kind.Kind.TheVariants as list
use Rattle.gltf_uses.specs.Uses.{Uses, Use, ◌&◌, member, optional_uses}

abbrev pub info_uses : Info → Uses
info_uses r = member (codes "index") (Use list.Texture r.index)

abbrev pub normal_texture_uses : NormalTexture → Uses
normal_texture_uses r = member (codes "index") (Use list.Texture r.index)

abbrev pub occlusion_texture_uses : OcclusionTexture → Uses
occlusion_texture_uses r = member (codes "index") (Use list.Texture r.index)

abbrev pub pbr_metallic_roughness_uses : PbrMetallicRoughness → Uses
pbr_metallic_roughness_uses r =
    member (codes "baseColorTexture") (optional_uses info_uses r.base_color_texture)
    & member (codes "metallicRoughnessTexture")
    (optional_uses info_uses r.metallic_roughness_texture)

abbrev pub pbr_specular_glossiness_uses : PbrSpecularGlossiness → Uses
pbr_specular_glossiness_uses r =
    member (codes "diffuseTexture") (optional_uses info_uses r.diffuse_texture)
    & member (codes "specularGlossinessTexture")
    (optional_uses info_uses r.specular_glossiness_texture)

abbrev pub transmission_uses : Transmission → Uses
transmission_uses r =
    member (codes "transmissionTexture") (optional_uses info_uses r.transmission_texture)

abbrev pub volume_uses : Volume → Uses
volume_uses r = member (codes "thicknessTexture") (optional_uses info_uses r.thickness_texture)

abbrev pub specular_uses : Specular → Uses
specular_uses r =
    member (codes "specularTexture") (optional_uses info_uses r.specular_texture)
    & member (codes "specularColorTexture") (optional_uses info_uses r.specular_color_texture)

abbrev pub material_extensions_uses : extended.Material → Uses
material_extensions_uses r =
    member (codes "KHR_materials_pbrSpecularGlossiness")
    (optional_uses pbr_specular_glossiness_uses r.pbr_specular_glossiness)
    & member (codes "KHR_materials_transmission") (optional_uses transmission_uses r.transmission)
    & member (codes "KHR_materials_volume") (optional_uses volume_uses r.volume)
    & member (codes "KHR_materials_specular") (optional_uses specular_uses r.specular)

abbrev pub material_uses : Material → Uses
material_uses r =
    member (codes "pbrMetallicRoughness")
    (optional_uses pbr_metallic_roughness_uses r.pbr_metallic_roughness)
    & member (codes "normalTexture") (optional_uses normal_texture_uses r.normal_texture)
    & member (codes "occlusionTexture") (optional_uses occlusion_texture_uses r.occlusion_texture)
    & member (codes "emissiveTexture") (optional_uses info_uses r.emissive_texture)
    & member (codes "extensions") (optional_uses material_extensions_uses r.extensions)
