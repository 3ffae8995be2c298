-- The rules of materials and their extensions, where none of their uses is of element i of a list:
-- they are the same whether the list ends before that element or after it.
use Rattle.std.proofs.Common.{◌≡◌, ℕ, ◌+◌, refl}
use Rattle.std.specs.Prelude.{codes}
use Rattle.gltf_json_material.specs.declared.texture.Info.{Info}
use Rattle.gltf_json_material.specs.declared.material.NormalTexture.{NormalTexture}
use Rattle.gltf_json_material.specs.declared.material.OcclusionTexture.{OcclusionTexture}
use Rattle.gltf_json_material.specs.declared.material.PbrMetallicRoughness.{PbrMetallicRoughness}
use Rattle.gltf_json_material.specs.declared.extensions.material.PbrSpecularGlossiness.{
  PbrSpecularGlossiness,
}
use Rattle.gltf_json_material.specs.declared.extensions.material.Transmission.{Transmission}
use Rattle.gltf_json_material.specs.declared.extensions.material.Volume.{Volume}
use Rattle.gltf_json_material.specs.declared.extensions.material.Specular.{Specular}
use Rattle.gltf_json_material.specs.declared.extensions.material.Material as extended
use Rattle.gltf_json_material.specs.declared.material.Material.{Material}
use Rattle.gltf_validation.specs.declared.counts.Counts.{Counts}
use Rattle.gltf_validation.specs.Textures.{info_rules}
use Rattle.gltf_validation.specs.Materials.{normal_texture_rules, occlusion_texture_rules}
use Rattle.gltf_validation.specs.Materials.{pbr_metallic_roughness_rules}
use Rattle.gltf_validation.specs.Materials.{pbr_specular_glossiness_rules, transmission_rules}
use Rattle.gltf_validation.specs.Materials.{volume_rules, specular_rules, material_extensions_rules}
use Rattle.gltf_validation.specs.Materials.{material_rules}
use Rattle.gltf_uses.specs.declared.kind.Kind.{Kind}
use Rattle.gltf_uses.specs.declared.kind.Kind.TheVariants as list
use Rattle.gltf_uses.specs.Materials.{info_uses, normal_texture_uses, occlusion_texture_uses}
use Rattle.gltf_uses.specs.Materials.{pbr_metallic_roughness_uses, pbr_specular_glossiness_uses}
use Rattle.gltf_uses.specs.Materials.{transmission_uses, volume_uses, specular_uses}
use Rattle.gltf_uses.specs.Materials.{material_extensions_uses, material_uses}
use Rattle.gltf_uses.specs.Lengths.{with_length}
use Rattle.gltf_uses.proofs.Free.{Free, at, both, one_index, optional_same}

module _ (kind : Kind) (i : ℕ) (c : Counts) where
  abbrev before : Counts
  before = with_length kind i c

  abbrev after : Counts
  after = with_length kind (i + 1) c

  pub info_same : (r : Info) → Free kind i (info_uses r)
      → info_rules before r ≡ info_rules after r
  info_same r free =
      at (codes "index") (one_index kind i list.Texture c.textures r.index free)

  pub normal_texture_same : (r : NormalTexture) → Free kind i (normal_texture_uses r)
      → normal_texture_rules before r ≡ normal_texture_rules after r
  normal_texture_same r free =
      at (codes "index") (one_index kind i list.Texture c.textures r.index free)

  pub occlusion_texture_same : (r : OcclusionTexture) → Free kind i (occlusion_texture_uses r)
      → occlusion_texture_rules before r ≡ occlusion_texture_rules after r
  occlusion_texture_same r free =
      at (codes "index") (one_index kind i list.Texture c.textures r.index free)

  pub pbr_metallic_roughness_same : (r : PbrMetallicRoughness)
      → Free kind i (pbr_metallic_roughness_uses r)
      → pbr_metallic_roughness_rules before r ≡ pbr_metallic_roughness_rules after r
  pbr_metallic_roughness_same r free =
      both
      (at (codes "baseColorTexture") (optional_same kind i (info_rules before)
      (info_rules after) info_uses info_same r.base_color_texture free.0))
      (at (codes "metallicRoughnessTexture") (optional_same kind i (info_rules before)
      (info_rules after) info_uses info_same r.metallic_roughness_texture free.1))

  pub pbr_specular_glossiness_same : (r : PbrSpecularGlossiness)
      → Free kind i (pbr_specular_glossiness_uses r)
      → pbr_specular_glossiness_rules before r ≡ pbr_specular_glossiness_rules after r
  pbr_specular_glossiness_same r free =
      both
      (at (codes "diffuseTexture") (optional_same kind i (info_rules before)
      (info_rules after) info_uses info_same r.diffuse_texture free.0))
      (at (codes "specularGlossinessTexture") (optional_same kind i (info_rules before)
      (info_rules after) info_uses info_same r.specular_glossiness_texture free.1))

  pub transmission_same : (r : Transmission) → Free kind i (transmission_uses r)
      → transmission_rules before r ≡ transmission_rules after r
  transmission_same r free =
      at (codes "transmissionTexture") (optional_same kind i (info_rules before)
      (info_rules after) info_uses info_same r.transmission_texture free)

  pub volume_same : (r : Volume) → Free kind i (volume_uses r)
      → volume_rules before r ≡ volume_rules after r
  volume_same r free =
      at (codes "thicknessTexture") (optional_same kind i (info_rules before)
      (info_rules after) info_uses info_same r.thickness_texture free)

  pub specular_same : (r : Specular) → Free kind i (specular_uses r)
      → specular_rules before r ≡ specular_rules after r
  specular_same r free =
      both
      (at (codes "specularTexture") (optional_same kind i (info_rules before)
      (info_rules after) info_uses info_same r.specular_texture free.0))
      (at (codes "specularColorTexture") (optional_same kind i (info_rules before)
      (info_rules after) info_uses info_same r.specular_color_texture free.1))

  pub material_extensions_same : (r : extended.Material) → Free kind i (material_extensions_uses r)
      → material_extensions_rules before r ≡ material_extensions_rules after r
  material_extensions_same r free =
      both
      (at (codes "KHR_materials_pbrSpecularGlossiness") (optional_same kind i
      (pbr_specular_glossiness_rules before) (pbr_specular_glossiness_rules after)
      pbr_specular_glossiness_uses pbr_specular_glossiness_same
      r.pbr_specular_glossiness free.0))
      (both
      (at (codes "KHR_materials_transmission") (optional_same kind i
      (transmission_rules before) (transmission_rules after) transmission_uses
      transmission_same r.transmission free.1.0))
      (both
      (at (codes "KHR_materials_volume") (optional_same kind i (volume_rules before)
      (volume_rules after) volume_uses volume_same r.volume free.1.1.0))
      (at (codes "KHR_materials_specular") (optional_same kind i (specular_rules before)
      (specular_rules after) specular_uses specular_same r.specular free.1.1.1))))

  pub material_same : (r : Material) → Free kind i (material_uses r)
      → material_rules before r ≡ material_rules after r
  material_same r free =
      both refl
      (both
      (at (codes "pbrMetallicRoughness") (optional_same kind i
      (pbr_metallic_roughness_rules before) (pbr_metallic_roughness_rules after)
      pbr_metallic_roughness_uses pbr_metallic_roughness_same r.pbr_metallic_roughness
      free.0))
      (both
      (at (codes "normalTexture") (optional_same kind i (normal_texture_rules before)
      (normal_texture_rules after) normal_texture_uses normal_texture_same
      r.normal_texture free.1.0))
      (both
      (at (codes "occlusionTexture") (optional_same kind i
      (occlusion_texture_rules before) (occlusion_texture_rules after)
      occlusion_texture_uses occlusion_texture_same r.occlusion_texture free.1.1.0))
      (both
      (at (codes "emissiveTexture") (optional_same kind i (info_rules before)
      (info_rules after) info_uses info_same r.emissive_texture free.1.1.1.0))
      (at (codes "extensions") (optional_same kind i (material_extensions_rules before)
      (material_extensions_rules after) material_extensions_uses
      material_extensions_same r.extensions free.1.1.1.1))))))
