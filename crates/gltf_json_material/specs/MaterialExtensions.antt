-- The extensions of a material, row by row.
use Rattle.std.specs.Prelude.{codes, [], ◌∷◌}
use Rattle.gltf_json_record.specs.Kind.{Kind}
use Rattle.gltf_json_record.specs.Scalars.{any}
use Rattle.gltf_json_record.specs.Table.{optional, others, no_rows, ◌&◌, table}
use Rattle.gltf_json_material.specs.Textures.{texture_info}
use Rattle.gltf_json_material.specs.declared.extensions.material.PbrSpecularGlossiness.{
  PbrSpecularGlossiness,
}
use Rattle.gltf_json_material.specs.declared.extensions.material.Unlit.{Unlit}
use Rattle.gltf_json_material.specs.declared.extensions.material.Transmission.{Transmission}
use Rattle.gltf_json_material.specs.declared.extensions.material.Ior.{Ior}
use Rattle.gltf_json_material.specs.declared.extensions.material.EmissiveStrength.{EmissiveStrength}
use Rattle.gltf_json_material.specs.declared.extensions.material.Volume.{Volume}
use Rattle.gltf_json_material.specs.declared.extensions.material.Specular.{Specular}
use Rattle.gltf_json_material.specs.declared.extensions.material.Material.{Material}

-- the extension KHR_materials_pbrSpecularGlossiness
unfoldable pub pbr_specular_glossiness : Kind PbrSpecularGlossiness
pbr_specular_glossiness = table
    (optional (codes "diffuseFactor") (λ r. r.diffuse_factor) any
    & optional (codes "diffuseTexture") (λ r. r.diffuse_texture) texture_info
    & optional (codes "specularFactor") (λ r. r.specular_factor) any
    & optional (codes "glossinessFactor") (λ r. r.glossiness_factor) any
    & optional (codes "specularGlossinessTexture") (λ r. r.specular_glossiness_texture) texture_info
    & optional (codes "extras") (λ r. r.extras) any)

-- the extension KHR_materials_unlit: an object, whose members are ignored
unfoldable pub unlit : Kind Unlit
unlit = table no_rows

-- the extension KHR_materials_transmission
unfoldable pub transmission : Kind Transmission
transmission = table
    (optional (codes "transmissionFactor") (λ r. r.transmission_factor) any
    & optional (codes "transmissionTexture") (λ r. r.transmission_texture) texture_info
    & optional (codes "extras") (λ r. r.extras) any)

-- the extension KHR_materials_ior
unfoldable pub ior : Kind Ior
ior = table
    (optional (codes "ior") (λ r. r.ior) any
    & optional (codes "extras") (λ r. r.extras) any)

-- the extension KHR_materials_emissive_strength
unfoldable pub emissive_strength : Kind EmissiveStrength
emissive_strength = table
    (optional (codes "emissiveStrength") (λ r. r.emissive_strength) any
    & optional (codes "extras") (λ r. r.extras) any)

-- the extension KHR_materials_volume
unfoldable pub volume : Kind Volume
volume = table
    (optional (codes "thicknessFactor") (λ r. r.thickness_factor) any
    & optional (codes "thicknessTexture") (λ r. r.thickness_texture) texture_info
    & optional (codes "attenuationDistance") (λ r. r.attenuation_distance) any
    & optional (codes "attenuationColor") (λ r. r.attenuation_color) any
    & optional (codes "extras") (λ r. r.extras) any)

-- the extension KHR_materials_specular
unfoldable pub specular : Kind Specular
specular = table
    (optional (codes "specularFactor") (λ r. r.specular_factor) any
    & optional (codes "specularTexture") (λ r. r.specular_texture) texture_info
    & optional (codes "specularColorFactor") (λ r. r.specular_color_factor) any
    & optional (codes "specularColorTexture") (λ r. r.specular_color_texture) texture_info
    & optional (codes "extras") (λ r. r.extras) any)

-- the member `extensions` of a material
unfoldable pub material_extensions : Kind Material
material_extensions = table
    (optional (codes "KHR_materials_pbrSpecularGlossiness")
    (λ r. r.pbr_specular_glossiness) pbr_specular_glossiness
    & optional (codes "KHR_materials_unlit") (λ r. r.unlit) unlit
    & optional (codes "KHR_materials_transmission") (λ r. r.transmission) transmission
    & optional (codes "KHR_materials_ior") (λ r. r.ior) ior
    & optional (codes "KHR_materials_emissive_strength")
    (λ r. r.emissive_strength) emissive_strength
    & optional (codes "KHR_materials_volume") (λ r. r.volume) volume
    & optional (codes "KHR_materials_specular") (λ r. r.specular) specular
    & others
    (codes "KHR_materials_pbrSpecularGlossiness"
    ∷ codes "KHR_materials_unlit"
    ∷ codes "KHR_materials_transmission"
    ∷ codes "KHR_materials_ior"
    ∷ codes "KHR_materials_emissive_strength"
    ∷ codes "KHR_materials_volume"
    ∷ codes "KHR_materials_specular"
    ∷ [])
    (λ r. r.others))
