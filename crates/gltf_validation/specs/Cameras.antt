-- The rules of cameras (glTF 2.0, section 3.10), in the order of their members.
use Rattle.std.specs.Prelude.{Bool, codes, false, true}
use Rattle.gltf_json_scene.specs.declared.camera.Camera.{Camera}
use Rattle.gltf_json_scene.specs.declared.camera.«Type» as camera
use Rattle.gltf_json_scene.specs.declared.camera.«Type».TheVariants.{Perspective, Orthographic}
use Rattle.gltf_json_record.specs.declared.validation.Checked.{Checked}
use Rattle.gltf_json_record.specs.declared.validation.Checked.TheVariants.{Invalid, Valid}
use Rattle.gltf_validation.specs.declared.counts.Counts.{Counts}
use Rattle.gltf_validation.specs.Rules.{Rules, ◌&◌}
use Rattle.gltf_validation.specs.Members.{member, code_rules, needed_rules}

-- the projection that a camera's type names
abbrev pub names_orthographic : Checked camera.«Type» → Bool
names_orthographic Invalid = false
names_orthographic (Valid Perspective) = false
names_orthographic (Valid Orthographic) = true

abbrev pub names_perspective : Checked camera.«Type» → Bool
names_perspective Invalid = false
names_perspective (Valid Perspective) = true
names_perspective (Valid Orthographic) = false

abbrev pub camera_rules : Counts → Camera → Rules
camera_rules c r =
    member (codes "type") (code_rules r.type_)
    & member (codes "orthographic") (needed_rules (names_orthographic r.type_) r.orthographic)
    & member (codes "perspective") (needed_rules (names_perspective r.type_) r.perspective)
