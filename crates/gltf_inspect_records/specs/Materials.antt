-- Materials: alphaCutoff "MUST NOT be defined for other modes" than MASK (glTF 2.0, section 3.9.4),
-- and numbers are in their ranges (sections 5.19, 5.21 and 5.22), as JSON has them, in double
-- precision.
use Rattle.std.specs.Prelude.{Bool, true, false, ◌&&◌, ◌||◌, is_none, codes, Float}
use Rattle.std.specs.Prelude.{Option, Some, None, option_map}
use Rattle.std.specs.Float.Ieee.{le}
use Rattle.serde_json.specs.Data.{Items, no_items, item}
use Rattle.serde_json.specs.Find.{as_array, as_number, to_float}
use Rattle.serde_json.specs.View.{view}
use Rattle.serde_json.specs.declared.value.Value.{Value}
use Rattle.gltf_json_record.specs.declared.validation.Checked.{Checked}
use Rattle.gltf_json_record.specs.declared.validation.Checked.TheVariants.{Valid}
use Rattle.gltf_json_material.specs.declared.material.AlphaMode.{AlphaMode}
use Rattle.gltf_json_material.specs.declared.material.AlphaMode.TheVariants.{Mask}
use Rattle.gltf_json_material.specs.declared.material.Material.{Material}
use Rattle.gltf_json_material.specs.declared.material.OcclusionTexture.{OcclusionTexture}
use Rattle.gltf_json_material.specs.declared.material.PbrMetallicRoughness.{PbrMetallicRoughness}
use Rattle.gltf_findings.specs.declared.code.Code.TheVariants.{AlphaCutoffInvalidMode}
use Rattle.gltf_findings.specs.declared.code.Code.TheVariants.{ValueNotInRange}
use Rattle.gltf_findings.specs.Checks.{Checks, Condition, ◌&◌, member, optional_checks}
use Rattle.gltf_inspect_records.specs.Cameras.{number_of, is_not_negative}
use Rattle.gltf_inspect_records.specs.declared.number.TheConstants.{ZERO, ONE}

abbrev pub is_mask : Checked AlphaMode → Bool
is_mask (Valid Mask) = true
is_mask _ = false

-- a number that is stated is from 0 to 1
abbrev pub is_fraction : Option Float → Bool
is_fraction None = true
is_fraction (Some x) = le ZERO x && le x ONE

-- each number of a list is
abbrev pub all_fractions : Items → Bool
all_fractions no_items = true
all_fractions (item d ds) = is_fraction (option_map to_float (as_number d)) && all_fractions ds

abbrev pub list_fractions : Option Items → Bool
list_fractions None = true
list_fractions (Some items) = all_fractions items

-- the same of a member; what is no list is not asked
abbrev pub are_fractions : Option Value → Bool
are_fractions None = true
are_fractions (Some v) = list_fractions (as_array (view v))

-- the factors of the metallic-roughness model (5.22)
abbrev pub metallic_checks : PbrMetallicRoughness → Checks
metallic_checks p =
    member (codes "baseColorFactor") (Condition (are_fractions p.base_color_factor) ValueNotInRange)
    & member (codes "metallicFactor")
    (Condition (is_fraction (number_of p.metallic_factor)) ValueNotInRange)
    & member (codes "roughnessFactor")
    (Condition (is_fraction (number_of p.roughness_factor)) ValueNotInRange)

-- the strength of occlusion (5.21)
abbrev pub occlusion_checks : OcclusionTexture → Checks
occlusion_checks t =
    member (codes "strength") (Condition (is_fraction (number_of t.strength)) ValueNotInRange)

-- the cutoff is at least 0, and the factors of the emission are fractions (5.19)
abbrev pub material_checks : Material → Checks
material_checks m =
    member (codes "alphaCutoff")
    (Condition (is_none m.alpha_cutoff || is_mask m.alpha_mode) AlphaCutoffInvalidMode
    & Condition (is_not_negative (number_of m.alpha_cutoff)) ValueNotInRange)
    & member (codes "pbrMetallicRoughness") (optional_checks metallic_checks m.pbr_metallic_roughness)
    & member (codes "occlusionTexture") (optional_checks occlusion_checks m.occlusion_texture)
    & member (codes "emissiveFactor") (Condition (are_fractions m.emissive_factor) ValueNotInRange)
