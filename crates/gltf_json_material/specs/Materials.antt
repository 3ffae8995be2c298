-- Materials and their parts, row by row.
use Rattle.std.specs.Prelude.{codes, false}
use Rattle.gltf_json_record.specs.Kind.{Kind}
use Rattle.gltf_json_record.specs.Scalars.{text, flag, n32, index, any, code}
use Rattle.gltf_json_record.specs.Table.{required, optional, defaulted, ◌&◌, table}
use Rattle.gltf_json_record.specs.Extensions.{others_only}
use Rattle.gltf_json_record.specs.declared.validation.Checked.TheVariants.{Valid}
use Rattle.gltf_json_material.specs.Codes.{alpha_mode}
use Rattle.gltf_json_material.specs.Textures.{texture_info}
use Rattle.gltf_json_material.specs.MaterialExtensions.{material_extensions}
use Rattle.gltf_json_material.specs.declared.material.AlphaMode.TheVariants.{Opaque}
use Rattle.gltf_json_material.specs.declared.material.NormalTexture.{NormalTexture}
use Rattle.gltf_json_material.specs.declared.material.OcclusionTexture.{OcclusionTexture}
use Rattle.gltf_json_material.specs.declared.material.PbrMetallicRoughness.{PbrMetallicRoughness}
use Rattle.gltf_json_material.specs.declared.material.Material.{Material}

-- glTF 2.0, section 5.22, "Material PBR Metallic Roughness"
unfoldable pub pbr_metallic_roughness : Kind PbrMetallicRoughness
pbr_metallic_roughness = table
    (optional (codes "baseColorFactor") (λ r. r.base_color_factor) any
    & optional (codes "baseColorTexture") (λ r. r.base_color_texture) texture_info
    & optional (codes "metallicFactor") (λ r. r.metallic_factor) any
    & optional (codes "roughnessFactor") (λ r. r.roughness_factor) any
    & optional (codes "metallicRoughnessTexture") (λ r. r.metallic_roughness_texture) texture_info
    & optional (codes "extensions") (λ r. r.extensions) others_only
    & optional (codes "extras") (λ r. r.extras) any)

-- glTF 2.0, section 5.20, "Material Normal Texture Info"
unfoldable pub normal_texture : Kind NormalTexture
normal_texture = table
    (required (codes "index") (λ r. r.index) index
    & optional (codes "scale") (λ r. r.scale) any
    & defaulted (codes "texCoord") (λ r. r.tex_coord) 0 n32
    & optional (codes "extensions") (λ r. r.extensions) others_only
    & optional (codes "extras") (λ r. r.extras) any)

-- glTF 2.0, section 5.21, "Material Occlusion Texture Info"
unfoldable pub occlusion_texture : Kind OcclusionTexture
occlusion_texture = table
    (required (codes "index") (λ r. r.index) index
    & optional (codes "strength") (λ r. r.strength) any
    & defaulted (codes "texCoord") (λ r. r.tex_coord) 0 n32
    & optional (codes "extensions") (λ r. r.extensions) others_only
    & optional (codes "extras") (λ r. r.extras) any)

-- glTF 2.0, section 5.19, "Material"
unfoldable pub material : Kind Material
material = table
    (optional (codes "alphaCutoff") (λ r. r.alpha_cutoff) any
    & defaulted (codes "alphaMode") (λ r. r.alpha_mode) (Valid Opaque) (code alpha_mode)
    & defaulted (codes "doubleSided") (λ r. r.double_sided) false flag
    & optional (codes "pbrMetallicRoughness") (λ r. r.pbr_metallic_roughness) pbr_metallic_roughness
    & optional (codes "normalTexture") (λ r. r.normal_texture) normal_texture
    & optional (codes "occlusionTexture") (λ r. r.occlusion_texture) occlusion_texture
    & optional (codes "emissiveTexture") (λ r. r.emissive_texture) texture_info
    & optional (codes "emissiveFactor") (λ r. r.emissive_factor) any
    & optional (codes "name") (λ r. r.name) text
    & optional (codes "extensions") (λ r. r.extensions) material_extensions
    & optional (codes "extras") (λ r. r.extras) any)
