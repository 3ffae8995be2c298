-- Cameras, as C sees them (glTF 2.0, section 3.10).
use Rattle.std.specs.Prelude.{ℕ, Bool, true, false, [], ◌∷◌, slice_get, Option, None, Some}
use Rattle.std.specs.Prelude.{option_map, if◌then◌else◌}
use Rattle.gltf_json.specs.declared.root.Root.{Root}
use Rattle.gltf_json_record.specs.declared.validation.Checked.{Checked}
use Rattle.gltf_json_record.specs.declared.validation.Checked.TheVariants.{Invalid, Valid}
use Rattle.gltf_json_scene.specs.declared.camera.Camera.{Camera}
use Rattle.gltf_json_scene.specs.declared.camera.Orthographic.{Orthographic as OrthographicRecord}
use Rattle.gltf_json_scene.specs.declared.camera.Perspective.{Perspective as PerspectiveRecord}
use Rattle.gltf_json_scene.specs.declared.camera.«Type» as camera
use Rattle.gltf_json_scene.specs.declared.camera.«Type».TheVariants.{Orthographic, Perspective}
use Rattle.gltf_c_look.specs.Numbers.{number_else}
use Rattle.gltf_c_look.specs.declared.number.TheConstants.{NO_NUMBER}
use Rattle.gltf_c_look.specs.declared.camera.GltfCamera.{GltfCamera}

-- a camera without numbers
abbrev pub empty_camera : ℕ → GltfCamera
empty_camera orthographic = record {
  orthographic = orthographic;
  reserved_word = 0;
  znear = NO_NUMBER;
  zfar = NO_NUMBER;
  xmag = NO_NUMBER;
  ymag = NO_NUMBER;
  yfov = NO_NUMBER;
  aspect_ratio = NO_NUMBER;
  reserved = 0 ∷ 0 ∷ [];
}

-- section 5.13
abbrev pub orthographic_of : Option OrthographicRecord → GltfCamera
orthographic_of None = empty_camera 1
orthographic_of (Some o) = record {
  orthographic = 1;
  reserved_word = 0;
  znear = number_else NO_NUMBER o.znear;
  zfar = number_else NO_NUMBER o.zfar;
  xmag = number_else NO_NUMBER o.xmag;
  ymag = number_else NO_NUMBER o.ymag;
  yfov = NO_NUMBER;
  aspect_ratio = NO_NUMBER;
  reserved = 0 ∷ 0 ∷ [];
}

-- section 5.14
abbrev pub perspective_of : Option PerspectiveRecord → GltfCamera
perspective_of None = empty_camera 0
perspective_of (Some p) = record {
  orthographic = 0;
  reserved_word = 0;
  znear = number_else NO_NUMBER p.znear;
  zfar = number_else NO_NUMBER p.zfar;
  xmag = NO_NUMBER;
  ymag = NO_NUMBER;
  yfov = number_else NO_NUMBER p.yfov;
  aspect_ratio = number_else NO_NUMBER p.aspect_ratio;
  reserved = 0 ∷ 0 ∷ [];
}

-- the record that `type` names (section 5.12.3)
abbrev pub is_orthographic : Checked camera.«Type» → Bool
is_orthographic Invalid = false
is_orthographic (Valid Orthographic) = true
is_orthographic (Valid Perspective) = false

abbrev pub shown_camera : Camera → GltfCamera
shown_camera c =
    if is_orthographic c.type_ then orthographic_of c.orthographic
    else perspective_of c.perspective

abbrev pub camera_of : ℕ → Root → Option GltfCamera
camera_of index r = option_map shown_camera (slice_get r.cameras.items index)
