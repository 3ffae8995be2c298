-- Cameras: the value of zfar "MUST be greater than" that of znear (glTF 2.0, sections 5.13.3 and
-- 5.14.3), and both are in their ranges. Numbers are compared as JSON has them, in double
-- precision.
use Rattle.std.specs.Prelude.{Bool, true, not, ◌||◌, codes, Float, Option, Some, None}
use Rattle.std.specs.Prelude.{option_map, is_none}
use Rattle.std.specs.Float.Ieee.{le, lt}
use Rattle.serde_json.specs.Find.{as_number, to_float}
use Rattle.serde_json.specs.View.{view}
use Rattle.serde_json.specs.declared.value.Value.{Value}
use Rattle.gltf_json_scene.specs.declared.camera.Camera.{Camera}
use Rattle.gltf_json_scene.specs.declared.camera.Orthographic.{Orthographic}
use Rattle.gltf_json_scene.specs.declared.camera.Perspective.{Perspective}
use Rattle.gltf_findings.specs.declared.code.Code.TheVariants.{CameraZfarLequalZnear}
use Rattle.gltf_findings.specs.declared.code.Code.TheVariants.{OneOfMismatch, ValueNotInRange}
use Rattle.gltf_inspect_records.specs.declared.number.TheConstants.{ZERO}
use Rattle.gltf_findings.specs.Checks.{Checks, Condition, ◌&◌, member, optional_checks}

-- the number of a member, where it is there and is one
abbrev pub number_of : Option Value → Option Float
number_of None = None
number_of (Some v) = option_map to_float (as_number (view v))

-- the far plane is behind the near one, as far as both are stated
abbrev pub is_farther : Option Float → Option Float → Bool
is_farther None near = true
is_farther (Some far) None = true
is_farther (Some far) (Some near) = not (le far near)

-- a number that is stated is above zero; at or above zero
abbrev pub is_positive : Option Float → Bool
is_positive None = true
is_positive (Some x) = lt ZERO x

abbrev pub is_not_negative : Option Float → Bool
is_not_negative None = true
is_not_negative (Some x) = le ZERO x

-- zfar is above zero, and znear is not below (5.13.3 and 5.13.4)
abbrev pub orthographic_checks : Orthographic → Checks
orthographic_checks o =
    Condition (is_farther (number_of o.zfar) (number_of o.znear)) CameraZfarLequalZnear
    & member (codes "zfar") (Condition (is_positive (number_of o.zfar)) ValueNotInRange)
    & member (codes "znear") (Condition (is_not_negative (number_of o.znear)) ValueNotInRange)

-- all four are above zero (5.14)
abbrev pub perspective_checks : Perspective → Checks
perspective_checks p =
    Condition (is_farther (number_of p.zfar) (number_of p.znear)) CameraZfarLequalZnear
    & member (codes "aspectRatio") (Condition (is_positive (number_of p.aspect_ratio)) ValueNotInRange)
    & member (codes "yfov") (Condition (is_positive (number_of p.yfov)) ValueNotInRange)
    & member (codes "zfar") (Condition (is_positive (number_of p.zfar)) ValueNotInRange)
    & member (codes "znear") (Condition (is_positive (number_of p.znear)) ValueNotInRange)

-- of both projections either one "MUST NOT be defined" when the other is (5.12)
abbrev pub camera_checks : Camera → Checks
camera_checks c =
    Condition (is_none c.orthographic || is_none c.perspective) OneOfMismatch
    & member (codes "orthographic") (optional_checks orthographic_checks c.orthographic)
    & member (codes "perspective") (optional_checks perspective_checks c.perspective)
