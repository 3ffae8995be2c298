-- What stands where a document has no record.
use Rattle.std.specs.Prelude.{None, false}
use Rattle.gltf_json_record.specs.declared.validation.Checked.TheVariants.{Valid}
use Rattle.gltf_json_material.specs.declared.material.AlphaMode.TheVariants.{Opaque}
use Rattle.gltf_json_material.specs.declared.material.Material.{Material}
use Rattle.gltf_json_material.specs.declared.material.PbrMetallicRoughness.{PbrMetallicRoughness}

-- a material with no members (glTF 2.0, section 3.9.6, "Default Material")
abbrev pub default_material : Material
default_material = record {
  alpha_cutoff = None;
  alpha_mode = Valid Opaque;
  double_sided = false;
  pbr_metallic_roughness = None;
  normal_texture = None;
  occlusion_texture = None;
  emissive_texture = None;
  emissive_factor = None;
  name = None;
  extensions = None;
  extras = None;
}

-- a colour, a metalness and a roughness with no members (glTF 2.0, section 5.22)
abbrev pub default_pbr_metallic_roughness : PbrMetallicRoughness
default_pbr_metallic_roughness = record {
  base_color_factor = None;
  base_color_texture = None;
  metallic_factor = None;
  roughness_factor = None;
  metallic_roughness_texture = None;
  extensions = None;
  extras = None;
}
