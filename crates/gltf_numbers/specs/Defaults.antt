-- The numbers that are meant where a member is absent, as the standard and the extensions state them
-- (glTF 2.0, sections 5.19 to 5.25). Others than 0 and 1 are written as their patterns of IEEE 754.
use Rattle.std.specs.Prelude.{Float, List, [], ◌∷◌, false, pos}
use Rattle.std.specs.Float.Ieee.{fin, of_bits, binary64}

abbrev pub zero : Float
zero = fin false 0 (pos 0)

abbrev pub one : Float
one = fin false 1 (pos 0)

-- matrix of a node, by columns: the identity (glTF 2.0, section 5.25, "Node")
abbrev pub default_matrix : List Float
default_matrix =
    one ∷ zero ∷ zero ∷ zero ∷
    zero ∷ one ∷ zero ∷ zero ∷
    zero ∷ zero ∷ one ∷ zero ∷
    zero ∷ zero ∷ zero ∷ one ∷ []

-- translation of a node, in metres (glTF 2.0, section 5.25, "Node")
abbrev pub default_translation : List Float
default_translation = zero ∷ zero ∷ zero ∷ []

-- rotation of a node, as a unit quaternion x, y, z, w (glTF 2.0, section 5.25, "Node")
abbrev pub default_rotation : List Float
default_rotation = zero ∷ zero ∷ zero ∷ one ∷ []

-- scale of a node (glTF 2.0, section 5.25, "Node")
abbrev pub default_scale : List Float
default_scale = one ∷ one ∷ one ∷ []

-- alphaCutoff of a material (glTF 2.0, section 5.19, "Material"): 0.5
abbrev pub default_alpha_cutoff : Float
default_alpha_cutoff = of_bits binary64 0x3fe0_0000_0000_0000

-- emissiveFactor of a material (glTF 2.0, section 5.19, "Material")
abbrev pub default_emissive_factor : List Float
default_emissive_factor = zero ∷ zero ∷ zero ∷ []

-- baseColorFactor (glTF 2.0, section 5.22, "Material PBR Metallic Roughness")
abbrev pub default_base_color_factor : List Float
default_base_color_factor = one ∷ one ∷ one ∷ one ∷ []

-- metallicFactor (glTF 2.0, section 5.22, "Material PBR Metallic Roughness")
abbrev pub default_metallic_factor : Float
default_metallic_factor = one

-- roughnessFactor (glTF 2.0, section 5.22, "Material PBR Metallic Roughness")
abbrev pub default_roughness_factor : Float
default_roughness_factor = one

-- scale of a normal texture (glTF 2.0, section 5.20, "Material Normal Texture Info")
abbrev pub default_normal_scale : Float
default_normal_scale = one

-- strength of an occlusion texture (glTF 2.0, section 5.21, "Material Occlusion Texture Info")
abbrev pub default_occlusion_strength : Float
default_occlusion_strength = one

-- ior of a material (KHR_materials_ior): 1.5
abbrev pub default_ior : Float
default_ior = of_bits binary64 0x3ff8_0000_0000_0000

-- emissiveStrength of a material (KHR_materials_emissive_strength)
abbrev pub default_emissive_strength : Float
default_emissive_strength = one

-- diffuseFactor (KHR_materials_pbrSpecularGlossiness)
abbrev pub default_diffuse_factor : List Float
default_diffuse_factor = one ∷ one ∷ one ∷ one ∷ []

-- specularFactor beside a diffuse colour (KHR_materials_pbrSpecularGlossiness)
abbrev pub default_glossy_specular_factor : List Float
default_glossy_specular_factor = one ∷ one ∷ one ∷ []

-- glossinessFactor (KHR_materials_pbrSpecularGlossiness)
abbrev pub default_glossiness_factor : Float
default_glossiness_factor = one

-- transmissionFactor (KHR_materials_transmission)
abbrev pub default_transmission_factor : Float
default_transmission_factor = zero

-- thicknessFactor (KHR_materials_volume)
abbrev pub default_thickness_factor : Float
default_thickness_factor = zero

-- attenuationColor (KHR_materials_volume)
abbrev pub default_attenuation_color : List Float
default_attenuation_color = one ∷ one ∷ one ∷ []

-- specularFactor (KHR_materials_specular)
abbrev pub default_specular_factor : Float
default_specular_factor = one

-- specularColorFactor (KHR_materials_specular)
abbrev pub default_specular_color_factor : List Float
default_specular_color_factor = one ∷ one ∷ one ∷ []

-- offset of texture coordinates (KHR_texture_transform)
abbrev pub default_texture_offset : List Float
default_texture_offset = zero ∷ zero ∷ []

-- rotation of texture coordinates, in radians (KHR_texture_transform)
abbrev pub default_texture_rotation : Float
default_texture_rotation = zero

-- scale of texture coordinates (KHR_texture_transform)
abbrev pub default_texture_scale : List Float
default_texture_scale = one ∷ one ∷ []

-- color of a light: white (KHR_lights_punctual, "Light Shared Properties")
abbrev pub default_light_color : List Float
default_light_color = one ∷ one ∷ one ∷ []

-- intensity of a light, in candela or lux (KHR_lights_punctual, "Light Shared Properties")
abbrev pub default_light_intensity : Float
default_light_intensity = one

-- innerConeAngle of a spot, in radians (KHR_lights_punctual, "Spot")
abbrev pub default_inner_cone_angle : Float
default_inner_cone_angle = zero

-- outerConeAngle of a spot, in radians: a quarter of pi, as the nearest double
-- (KHR_lights_punctual, "Spot")
abbrev pub default_outer_cone_angle : Float
default_outer_cone_angle = of_bits binary64 0x3fe9_21fb_5444_2d18
