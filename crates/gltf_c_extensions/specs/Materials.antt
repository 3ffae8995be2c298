-- The extensions of materials that the loader keeps as JSON, as C sees them.
use Rattle.std.specs.Prelude.{ℕ, [], ◌∷◌, codes, Result}
use Rattle.gltf_json.specs.declared.root.Root.{Root}
use Rattle.gltf_extension_records.specs.Materials as kinds
use Rattle.gltf_extension_records.specs.Rules as rules
use Rattle.gltf_extension_records.specs.declared.material.Anisotropy.{Anisotropy}
use Rattle.gltf_extension_records.specs.declared.material.Clearcoat.{Clearcoat}
use Rattle.gltf_extension_records.specs.declared.material.DiffuseTransmission.{DiffuseTransmission}
use Rattle.gltf_extension_records.specs.declared.material.Dispersion.{Dispersion}
use Rattle.gltf_extension_records.specs.declared.material.Iridescence.{Iridescence}
use Rattle.gltf_extension_records.specs.declared.material.Sheen.{Sheen}
use Rattle.gltf_c_scene.specs.declared.kind.Kind.TheVariants.{Materials}
use Rattle.gltf_c_extensions.specs.Reading.{IsShown}
use Rattle.gltf_c_extensions.specs.Uses.{info_use, normal_use}
use Rattle.gltf_c_extensions.specs.declared.material.GltfAnisotropy.{GltfAnisotropy}
use Rattle.gltf_c_extensions.specs.declared.material.GltfClearcoat.{GltfClearcoat}
use Rattle.gltf_c_extensions.specs.declared.material.GltfDiffuseTransmission.{
  GltfDiffuseTransmission,
}
use Rattle.gltf_c_extensions.specs.declared.material.GltfDispersion.{GltfDispersion}
use Rattle.gltf_c_extensions.specs.declared.material.GltfIridescence.{GltfIridescence}
use Rattle.gltf_c_extensions.specs.declared.material.GltfSheen.{GltfSheen}
use Rattle.gltf_c_extensions.specs.declared.reading.Missing.{Missing}

-- KHR_materials_clearcoat
abbrev pub shown_clearcoat : Clearcoat → GltfClearcoat
shown_clearcoat it = record {
  clearcoat_factor = it.clearcoat_factor;
  clearcoat_roughness_factor = it.clearcoat_roughness_factor;
  clearcoat = info_use it.clearcoat_texture;
  clearcoat_roughness = info_use it.clearcoat_roughness_texture;
  clearcoat_normal = normal_use it.clearcoat_normal_texture;
  reserved = 0 ∷ 0 ∷ 0 ∷ 0 ∷ [];
}

abbrev pub IsClearcoat : ℕ → Root → Result GltfClearcoat Missing → Type 0
IsClearcoat index r =
    IsShown kinds.clearcoat rules.clearcoat_rules shown_clearcoat
    Materials (codes "KHR_materials_clearcoat") index r

-- KHR_materials_sheen
abbrev pub shown_sheen : Sheen → GltfSheen
shown_sheen it = record {
  sheen_color_factor = it.sheen_color_factor;
  sheen_roughness_factor = it.sheen_roughness_factor;
  sheen_color = info_use it.sheen_color_texture;
  sheen_roughness = info_use it.sheen_roughness_texture;
  reserved = 0 ∷ 0 ∷ 0 ∷ 0 ∷ [];
}

abbrev pub IsSheen : ℕ → Root → Result GltfSheen Missing → Type 0
IsSheen index r =
    IsShown kinds.sheen rules.sheen_rules shown_sheen
    Materials (codes "KHR_materials_sheen") index r

-- KHR_materials_iridescence
abbrev pub shown_iridescence : Iridescence → GltfIridescence
shown_iridescence it = record {
  iridescence_factor = it.iridescence_factor;
  iridescence_ior = it.iridescence_ior;
  iridescence_thickness_minimum = it.iridescence_thickness_minimum;
  iridescence_thickness_maximum = it.iridescence_thickness_maximum;
  iridescence = info_use it.iridescence_texture;
  iridescence_thickness = info_use it.iridescence_thickness_texture;
  reserved = 0 ∷ 0 ∷ 0 ∷ 0 ∷ [];
}

abbrev pub IsIridescence : ℕ → Root → Result GltfIridescence Missing → Type 0
IsIridescence index r =
    IsShown kinds.iridescence rules.iridescence_rules shown_iridescence
    Materials (codes "KHR_materials_iridescence") index r

-- KHR_materials_anisotropy
abbrev pub shown_anisotropy : Anisotropy → GltfAnisotropy
shown_anisotropy it = record {
  anisotropy_strength = it.anisotropy_strength;
  anisotropy_rotation = it.anisotropy_rotation;
  anisotropy = info_use it.anisotropy_texture;
  reserved = 0 ∷ 0 ∷ 0 ∷ 0 ∷ [];
}

abbrev pub IsAnisotropy : ℕ → Root → Result GltfAnisotropy Missing → Type 0
IsAnisotropy index r =
    IsShown kinds.anisotropy rules.anisotropy_rules shown_anisotropy
    Materials (codes "KHR_materials_anisotropy") index r

-- KHR_materials_dispersion
abbrev pub shown_dispersion : Dispersion → GltfDispersion
shown_dispersion it = record {
  dispersion = it.dispersion;
  reserved = 0 ∷ 0 ∷ 0 ∷ 0 ∷ [];
}

abbrev pub IsDispersion : ℕ → Root → Result GltfDispersion Missing → Type 0
IsDispersion index r =
    IsShown kinds.dispersion rules.dispersion_rules shown_dispersion
    Materials (codes "KHR_materials_dispersion") index r

-- KHR_materials_diffuse_transmission
abbrev pub shown_diffuse_transmission : DiffuseTransmission → GltfDiffuseTransmission
shown_diffuse_transmission it = record {
  diffuse_transmission_factor = it.diffuse_transmission_factor;
  diffuse_transmission_color_factor = it.diffuse_transmission_color_factor;
  diffuse_transmission = info_use it.diffuse_transmission_texture;
  diffuse_transmission_color = info_use it.diffuse_transmission_color_texture;
  reserved = 0 ∷ 0 ∷ 0 ∷ 0 ∷ [];
}

abbrev pub IsDiffuseTransmission : ℕ → Root → Result GltfDiffuseTransmission Missing → Type 0
IsDiffuseTransmission index r =
    IsShown kinds.diffuse_transmission rules.diffuse_transmission_rules shown_diffuse_transmission
    Materials (codes "KHR_materials_diffuse_transmission") index r
