-- The uses of textures in a material (glTF 2.0, sections 3.9 and 5.19, and the extensions of
-- materials).
use Rattle.std.specs.Prelude.{ℕ, codes, List, [], ◌∷◌, ◌++◌, Option, Some, None}
use Rattle.gltf_json_material.specs.declared.extensions.material.Material as extended
use Rattle.gltf_json_material.specs.declared.extensions.material.PbrSpecularGlossiness.{
  PbrSpecularGlossiness,
}
use Rattle.gltf_json_material.specs.declared.extensions.material.Specular.{Specular}
use Rattle.gltf_json_material.specs.declared.extensions.material.Transmission.{Transmission}
use Rattle.gltf_json_material.specs.declared.extensions.material.Volume.{Volume}
use Rattle.gltf_json_material.specs.declared.material.Material.{Material}
use Rattle.gltf_json_material.specs.declared.material.PbrMetallicRoughness.{PbrMetallicRoughness}
use Rattle.gltf_json_material.specs.declared.texture.Info.{Info}
use Rattle.gltf_json_record.specs.Place.{Place, named}
use Rattle.gltf_uses.specs.declared.material_textures.Slot.{Slot}
use Rattle.gltf_uses.specs.declared.material_textures.Slot.TheVariants as slot
use Rattle.gltf_uses.specs.declared.material_textures.TextureUse.{TextureUse}

abbrev pub within : List ℕ → List ℕ → List Place
within record_name name = named record_name ∷ named name ∷ []

abbrev pub within_extension : List ℕ → List ℕ → List Place
within_extension extension name = named (codes "extensions") ∷ within extension name

-- the steps from a material to the member that names the texture
abbrev pub slot_places : Slot → List Place
slot_places slot.BaseColor = within (codes "pbrMetallicRoughness") (codes "baseColorTexture")
slot_places slot.MetallicRoughness =
    within (codes "pbrMetallicRoughness") (codes "metallicRoughnessTexture")
slot_places slot.Normal = named (codes "normalTexture") ∷ []
slot_places slot.Occlusion = named (codes "occlusionTexture") ∷ []
slot_places slot.Emissive = named (codes "emissiveTexture") ∷ []
slot_places slot.Diffuse =
    within_extension (codes "KHR_materials_pbrSpecularGlossiness") (codes "diffuseTexture")
slot_places slot.SpecularGlossiness =
    within_extension (codes "KHR_materials_pbrSpecularGlossiness")
    (codes "specularGlossinessTexture")
slot_places slot.Transmission =
    within_extension (codes "KHR_materials_transmission") (codes "transmissionTexture")
slot_places slot.Thickness =
    within_extension (codes "KHR_materials_volume") (codes "thicknessTexture")
slot_places slot.Specular =
    within_extension (codes "KHR_materials_specular") (codes "specularTexture")
slot_places slot.SpecularColor =
    within_extension (codes "KHR_materials_specular") (codes "specularColorTexture")

-- the use at one member, where that is there
abbrev pub use_at : {T : Type 0} → (T → ℕ) → (T → ℕ) → Slot → Option T → List TextureUse
use_at texture tex_coord slot None = []
use_at texture tex_coord slot (Some r) =
    record { slot = slot; texture = texture r; tex_coord = tex_coord r } ∷ []

abbrev pub info_at : Slot → Option Info → List TextureUse
info_at slot info = use_at (λ r. r.index) (λ r. r.tex_coord) slot info

-- the uses in a record, where that is there
abbrev pub uses_in : {T : Type 0} → (T → List TextureUse) → Option T → List TextureUse
uses_in uses None = []
uses_in uses (Some r) = uses r

abbrev pub in_metallic_roughness : PbrMetallicRoughness → List TextureUse
in_metallic_roughness r =
    info_at slot.BaseColor r.base_color_texture
    ++ info_at slot.MetallicRoughness r.metallic_roughness_texture

abbrev pub in_specular_glossiness : PbrSpecularGlossiness → List TextureUse
in_specular_glossiness r =
    info_at slot.Diffuse r.diffuse_texture
    ++ info_at slot.SpecularGlossiness r.specular_glossiness_texture

abbrev pub in_transmission : Transmission → List TextureUse
in_transmission r = info_at slot.Transmission r.transmission_texture

abbrev pub in_volume : Volume → List TextureUse
in_volume r = info_at slot.Thickness r.thickness_texture

abbrev pub in_specular : Specular → List TextureUse
in_specular r =
    info_at slot.Specular r.specular_texture
    ++ info_at slot.SpecularColor r.specular_color_texture

abbrev pub in_extensions : extended.Material → List TextureUse
in_extensions r =
    uses_in in_specular_glossiness r.pbr_specular_glossiness
    ++ uses_in in_transmission r.transmission
    ++ uses_in in_volume r.volume
    ++ uses_in in_specular r.specular

-- the uses in a material, in the order of its members and then of its extensions
abbrev pub textures_of : Material → List TextureUse
textures_of r =
    uses_in in_metallic_roughness r.pbr_metallic_roughness
    ++ use_at (λ t. t.index) (λ t. t.tex_coord) slot.Normal r.normal_texture
    ++ use_at (λ t. t.index) (λ t. t.tex_coord) slot.Occlusion r.occlusion_texture
    ++ info_at slot.Emissive r.emissive_texture
    ++ uses_in in_extensions r.extensions
