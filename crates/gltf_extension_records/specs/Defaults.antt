-- The numbers that are meant where a member is absent, as the extensions state them. Others than 0 and
-- 1 are written as their patterns of IEEE 754.
use Rattle.std.specs.Prelude.{Float, List, [], ◌∷◌}
use Rattle.std.specs.Float.Ieee.{of_bits, binary64}
use Rattle.gltf_numbers.specs.Defaults.{zero, one}

-- clearcoatFactor (KHR_materials_clearcoat)
abbrev pub default_clearcoat_factor : Float
default_clearcoat_factor = zero

-- clearcoatRoughnessFactor (KHR_materials_clearcoat)
abbrev pub default_clearcoat_roughness_factor : Float
default_clearcoat_roughness_factor = zero

-- sheenColorFactor (KHR_materials_sheen)
abbrev pub default_sheen_color_factor : List Float
default_sheen_color_factor = zero ∷ zero ∷ zero ∷ []

-- sheenRoughnessFactor (KHR_materials_sheen)
abbrev pub default_sheen_roughness_factor : Float
default_sheen_roughness_factor = zero

-- iridescenceFactor (KHR_materials_iridescence)
abbrev pub default_iridescence_factor : Float
default_iridescence_factor = zero

-- iridescenceIor (KHR_materials_iridescence): 1.3, as the nearest double
abbrev pub default_iridescence_ior : Float
default_iridescence_ior = of_bits binary64 0x3ff4_cccc_cccc_cccd

-- iridescenceThicknessMinimum (KHR_materials_iridescence): 100
abbrev pub default_iridescence_thickness_minimum : Float
default_iridescence_thickness_minimum = of_bits binary64 0x4059_0000_0000_0000

-- iridescenceThicknessMaximum (KHR_materials_iridescence): 400
abbrev pub default_iridescence_thickness_maximum : Float
default_iridescence_thickness_maximum = of_bits binary64 0x4079_0000_0000_0000

-- anisotropyStrength (KHR_materials_anisotropy)
abbrev pub default_anisotropy_strength : Float
default_anisotropy_strength = zero

-- anisotropyRotation (KHR_materials_anisotropy)
abbrev pub default_anisotropy_rotation : Float
default_anisotropy_rotation = zero

-- dispersion (KHR_materials_dispersion)
abbrev pub default_dispersion : Float
default_dispersion = zero

-- diffuseTransmissionFactor (KHR_materials_diffuse_transmission)
abbrev pub default_diffuse_transmission_factor : Float
default_diffuse_transmission_factor = zero

-- diffuseTransmissionColorFactor (KHR_materials_diffuse_transmission)
abbrev pub default_diffuse_transmission_color_factor : List Float
default_diffuse_transmission_color_factor = one ∷ one ∷ one ∷ []
