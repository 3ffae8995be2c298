-- The extensions of a material, row by row.
use Rattle.std.specs.Prelude.{codes}
use Rattle.gltf_json_record.specs.Kind.{Kind}
use Rattle.gltf_json_record.specs.Table.{optional, defaulted, ◌&◌, table}
use Rattle.gltf_extension_records.specs.Numbers.{number, numbers}
use Rattle.gltf_extension_records.specs.Textures.{texture_info, normal_texture_info}
use Rattle.gltf_extension_records.specs.declared.material.Clearcoat.{Clearcoat}
use Rattle.gltf_extension_records.specs.declared.material.Sheen.{Sheen}
use Rattle.gltf_extension_records.specs.declared.material.Iridescence.{Iridescence}
use Rattle.gltf_extension_records.specs.declared.material.Anisotropy.{Anisotropy}
use Rattle.gltf_extension_records.specs.declared.material.Dispersion.{Dispersion}
use Rattle.gltf_extension_records.specs.declared.material.DiffuseTransmission.{DiffuseTransmission}
use Rattle.gltf_extension_records.specs.Defaults.{default_anisotropy_rotation}
use Rattle.gltf_extension_records.specs.Defaults.{default_anisotropy_strength}
use Rattle.gltf_extension_records.specs.Defaults.{default_clearcoat_factor}
use Rattle.gltf_extension_records.specs.Defaults.{default_clearcoat_roughness_factor}
use Rattle.gltf_extension_records.specs.Defaults.{default_diffuse_transmission_color_factor}
use Rattle.gltf_extension_records.specs.Defaults.{default_diffuse_transmission_factor}
use Rattle.gltf_extension_records.specs.Defaults.{default_dispersion, default_iridescence_factor}
use Rattle.gltf_extension_records.specs.Defaults.{default_iridescence_ior}
use Rattle.gltf_extension_records.specs.Defaults.{default_iridescence_thickness_maximum}
use Rattle.gltf_extension_records.specs.Defaults.{default_iridescence_thickness_minimum}
use Rattle.gltf_extension_records.specs.Defaults.{default_sheen_color_factor}
use Rattle.gltf_extension_records.specs.Defaults.{default_sheen_roughness_factor}

-- the extension KHR_materials_clearcoat
unfoldable pub clearcoat : Kind Clearcoat
clearcoat = table
    (defaulted (codes "clearcoatFactor") (λ r. r.clearcoat_factor) default_clearcoat_factor number
    & optional (codes "clearcoatTexture") (λ r. r.clearcoat_texture) texture_info
    & defaulted (codes "clearcoatRoughnessFactor")
    (λ r. r.clearcoat_roughness_factor) default_clearcoat_roughness_factor number
    & optional (codes "clearcoatRoughnessTexture")
    (λ r. r.clearcoat_roughness_texture) texture_info
    & optional (codes "clearcoatNormalTexture")
    (λ r. r.clearcoat_normal_texture) normal_texture_info)

-- the extension KHR_materials_sheen
unfoldable pub sheen : Kind Sheen
sheen = table
    (defaulted (codes "sheenColorFactor")
    (λ r. r.sheen_color_factor) default_sheen_color_factor (numbers 3)
    & optional (codes "sheenColorTexture") (λ r. r.sheen_color_texture) texture_info
    & defaulted (codes "sheenRoughnessFactor")
    (λ r. r.sheen_roughness_factor) default_sheen_roughness_factor number
    & optional (codes "sheenRoughnessTexture") (λ r. r.sheen_roughness_texture) texture_info)

-- the extension KHR_materials_iridescence
unfoldable pub iridescence : Kind Iridescence
iridescence = table
    (defaulted (codes "iridescenceFactor") (λ r. r.iridescence_factor) default_iridescence_factor number
    & optional (codes "iridescenceTexture") (λ r. r.iridescence_texture) texture_info
    & defaulted (codes "iridescenceIor") (λ r. r.iridescence_ior) default_iridescence_ior number
    & defaulted (codes "iridescenceThicknessMinimum")
    (λ r. r.iridescence_thickness_minimum) default_iridescence_thickness_minimum number
    & defaulted (codes "iridescenceThicknessMaximum")
    (λ r. r.iridescence_thickness_maximum) default_iridescence_thickness_maximum number
    & optional (codes "iridescenceThicknessTexture")
    (λ r. r.iridescence_thickness_texture) texture_info)

-- the extension KHR_materials_anisotropy
unfoldable pub anisotropy : Kind Anisotropy
anisotropy = table
    (defaulted (codes "anisotropyStrength") (λ r. r.anisotropy_strength) default_anisotropy_strength number
    & defaulted (codes "anisotropyRotation")
    (λ r. r.anisotropy_rotation) default_anisotropy_rotation number
    & optional (codes "anisotropyTexture") (λ r. r.anisotropy_texture) texture_info)

-- the extension KHR_materials_dispersion
unfoldable pub dispersion : Kind Dispersion
dispersion = table
    (defaulted (codes "dispersion") (λ r. r.dispersion) default_dispersion number)

-- the extension KHR_materials_diffuse_transmission
unfoldable pub diffuse_transmission : Kind DiffuseTransmission
diffuse_transmission = table
    (defaulted (codes "diffuseTransmissionFactor")
    (λ r. r.diffuse_transmission_factor) default_diffuse_transmission_factor number
    & optional (codes "diffuseTransmissionTexture")
    (λ r. r.diffuse_transmission_texture) texture_info
    & defaulted (codes "diffuseTransmissionColorFactor")
    (λ r. r.diffuse_transmission_color_factor) default_diffuse_transmission_color_factor (numbers 3)
    & optional (codes "diffuseTransmissionColorTexture")
    (λ r. r.diffuse_transmission_color_texture) texture_info)
