-- Materials and their extensions that show the same have the same rules: `material_rules-alike`,
-- for `AlikeDocuments`. One lemma for each record with rules, from the textures up to the material.
-- Each goes through the rules of its record in their order (`both`, `at`), and takes a member out
-- of the content by its place in the record's table (`s.1.1.0` is the third). A new row in the
-- middle of a table moves the places after it.
use Rattle.std.proofs.Common.{◌≡◌, ap}
use Rattle.std.specs.Prelude.{codes}
use Rattle.gltf_json_material.specs.MaterialExtensions.{material_extensions}
use Rattle.gltf_json_material.specs.MaterialExtensions.{pbr_specular_glossiness, specular}
use Rattle.gltf_json_material.specs.MaterialExtensions.{transmission, volume}
use Rattle.gltf_json_material.specs.Materials.{material, normal_texture, occlusion_texture}
use Rattle.gltf_json_material.specs.Materials.{pbr_metallic_roughness}
use Rattle.gltf_json_material.specs.Textures.{texture_info}
use Rattle.gltf_json_material.specs.declared.material.NormalTexture.{NormalTexture}
use Rattle.gltf_json_material.specs.declared.material.OcclusionTexture.{OcclusionTexture}
use Rattle.gltf_json_material.specs.declared.material.PbrMetallicRoughness.{PbrMetallicRoughness}
use Rattle.gltf_json_material.specs.declared.extensions.material.PbrSpecularGlossiness.{
  PbrSpecularGlossiness,
}
use Rattle.gltf_json_material.specs.declared.extensions.material.Transmission.{Transmission}
use Rattle.gltf_json_material.specs.declared.extensions.material.Volume.{Volume}
use Rattle.gltf_json_material.specs.declared.extensions.material.Specular.{Specular}
use Rattle.gltf_json_material.specs.declared.extensions.material.Material as extended
use Rattle.gltf_json_material.specs.declared.material.Material.{Material}
use Rattle.gltf_validation.specs.declared.counts.Counts.{Counts}
use Rattle.gltf_validation.specs.Members.{code_rules, index_rules}
use Rattle.gltf_validation.specs.Materials.{material_extensions_rules, material_rules}
use Rattle.gltf_validation.specs.Materials.{normal_texture_rules, occlusion_texture_rules}
use Rattle.gltf_validation.specs.Materials.{pbr_metallic_roughness_rules}
use Rattle.gltf_validation.specs.Materials.{pbr_specular_glossiness_rules, specular_rules}
use Rattle.gltf_validation.specs.Materials.{transmission_rules, volume_rules}
use Rattle.gltf_validation.specs.Textures.{info_rules}
use Rattle.gltf_validation.proofs.Alike.{at, both, optional_alike}
use Rattle.gltf_validation.proofs.AlikeTextures.{info_rules-alike}

pub normal_texture_rules-alike : (c : Counts) (x y : NormalTexture)
    → normal_texture.content x ≡ normal_texture.content y
    → normal_texture_rules c x ≡ normal_texture_rules c y
unfolding normal_texture
normal_texture_rules-alike c x y e =
    at (codes "index") (ap (index_rules c.textures) (ap (λ s. s.0) e))

pub occlusion_texture_rules-alike : (c : Counts) (x y : OcclusionTexture)
    → occlusion_texture.content x ≡ occlusion_texture.content y
    → occlusion_texture_rules c x ≡ occlusion_texture_rules c y
unfolding occlusion_texture
occlusion_texture_rules-alike c x y e =
    at (codes "index") (ap (index_rules c.textures) (ap (λ s. s.0) e))

pub pbr_metallic_roughness_rules-alike : (c : Counts) (x y : PbrMetallicRoughness)
    → pbr_metallic_roughness.content x ≡ pbr_metallic_roughness.content y
    → pbr_metallic_roughness_rules c x ≡ pbr_metallic_roughness_rules c y
unfolding pbr_metallic_roughness
pbr_metallic_roughness_rules-alike c x y e =
    both (at (codes "baseColorTexture")
    (optional_alike texture_info.content (info_rules c)
    (info_rules-alike c) x.base_color_texture y.base_color_texture (ap (λ s. s.1.0) e)))
    (at (codes "metallicRoughnessTexture")
    (optional_alike texture_info.content (info_rules c)
    (info_rules-alike c) x.metallic_roughness_texture y.metallic_roughness_texture
    (ap (λ s. s.1.1.1.1.0) e)))

pub pbr_specular_glossiness_rules-alike : (c : Counts) (x y : PbrSpecularGlossiness)
    → pbr_specular_glossiness.content x ≡ pbr_specular_glossiness.content y
    → pbr_specular_glossiness_rules c x ≡ pbr_specular_glossiness_rules c y
unfolding pbr_specular_glossiness
pbr_specular_glossiness_rules-alike c x y e =
    both (at (codes "diffuseTexture") (optional_alike texture_info.content (info_rules c)
    (info_rules-alike c) x.diffuse_texture y.diffuse_texture (ap (λ s. s.1.0) e)))
    (at (codes "specularGlossinessTexture")
    (optional_alike texture_info.content (info_rules c)
    (info_rules-alike c) x.specular_glossiness_texture y.specular_glossiness_texture
    (ap (λ s. s.1.1.1.1.0) e)))

pub transmission_rules-alike : (c : Counts) (x y : Transmission)
    → transmission.content x ≡ transmission.content y
    → transmission_rules c x ≡ transmission_rules c y
unfolding transmission
transmission_rules-alike c x y e =
    at (codes "transmissionTexture") (optional_alike texture_info.content (info_rules c)
    (info_rules-alike c) x.transmission_texture y.transmission_texture (ap (λ s. s.1.0) e))

pub volume_rules-alike : (c : Counts) (x y : Volume) → volume.content x ≡ volume.content y
    → volume_rules c x ≡ volume_rules c y
unfolding volume
volume_rules-alike c x y e =
    at (codes "thicknessTexture") (optional_alike texture_info.content (info_rules c)
    (info_rules-alike c) x.thickness_texture y.thickness_texture (ap (λ s. s.1.0) e))

pub specular_rules-alike : (c : Counts) (x y : Specular) → specular.content x ≡ specular.content y
    → specular_rules c x ≡ specular_rules c y
unfolding specular
specular_rules-alike c x y e =
    both (at (codes "specularTexture")
    (optional_alike texture_info.content (info_rules c)
    (info_rules-alike c) x.specular_texture y.specular_texture (ap (λ s. s.1.0) e)))
    (at (codes "specularColorTexture")
    (optional_alike texture_info.content (info_rules c)
    (info_rules-alike c) x.specular_color_texture y.specular_color_texture
    (ap (λ s. s.1.1.1.0) e)))

pub material_extensions_rules-alike : (c : Counts) (x y : extended.Material)
    → material_extensions.content x ≡ material_extensions.content y
    → material_extensions_rules c x ≡ material_extensions_rules c y
unfolding material_extensions
material_extensions_rules-alike c x y e =
    both (at (codes "KHR_materials_pbrSpecularGlossiness")
    (optional_alike pbr_specular_glossiness.content (pbr_specular_glossiness_rules c)
    (pbr_specular_glossiness_rules-alike c) x.pbr_specular_glossiness y.pbr_specular_glossiness
    (ap (λ s. s.0) e)))
    (both (at (codes "KHR_materials_transmission")
    (optional_alike transmission.content (transmission_rules c)
    (transmission_rules-alike c) x.transmission y.transmission (ap (λ s. s.1.1.0) e)))
    (both (at (codes "KHR_materials_volume")
    (optional_alike volume.content (volume_rules c) (volume_rules-alike c) x.volume y.volume
    (ap (λ s. s.1.1.1.1.1.0) e)))
    (at (codes "KHR_materials_specular")
    (optional_alike specular.content (specular_rules c)
    (specular_rules-alike c) x.specular y.specular (ap (λ s. s.1.1.1.1.1.1.0) e)))))

pub material_rules-alike : (c : Counts) (x y : Material) → material.content x ≡ material.content y
    → material_rules c x ≡ material_rules c y
unfolding material
material_rules-alike c x y e =
    both (at (codes "alphaMode") (ap code_rules (ap (λ s. s.1.0) e)))
    (both (at (codes "pbrMetallicRoughness")
    (optional_alike pbr_metallic_roughness.content (pbr_metallic_roughness_rules c)
    (pbr_metallic_roughness_rules-alike c) x.pbr_metallic_roughness y.pbr_metallic_roughness
    (ap (λ s. s.1.1.1.0) e)))
    (both (at (codes "normalTexture") (optional_alike normal_texture.content
    (normal_texture_rules c) (normal_texture_rules-alike c) x.normal_texture y.normal_texture
    (ap (λ s. s.1.1.1.1.0) e)))
    (both (at (codes "occlusionTexture")
    (optional_alike occlusion_texture.content (occlusion_texture_rules c)
    (occlusion_texture_rules-alike c) x.occlusion_texture y.occlusion_texture
    (ap (λ s. s.1.1.1.1.1.0) e)))
    (both (at (codes "emissiveTexture")
    (optional_alike texture_info.content (info_rules c)
    (info_rules-alike c) x.emissive_texture y.emissive_texture (ap (λ s. s.1.1.1.1.1.1.0) e)))
    (at (codes "extensions") (optional_alike material_extensions.content
    (material_extensions_rules c) (material_extensions_rules-alike c) x.extensions y.extensions
    (ap (λ s. s.1.1.1.1.1.1.1.1.1.0) e)))))))
