-- Handles of cameras, and how these project.
use Rattle.std.specs.Prelude.{◌≡◌, ℕ, Some}
use Rattle.gltf_json.specs.declared.root.Root.{Root}
use Rattle.gltf_json_scene.specs.declared.camera.Camera.{Camera as CameraRecord}
use Rattle.gltf_json_scene.specs.declared.camera.Orthographic.{Orthographic as OrthographicRecord}
use Rattle.gltf_json_scene.specs.declared.camera.Perspective.{Perspective as PerspectiveRecord}
use Rattle.gltf_json_scene.specs.declared.camera.«Type».TheVariants as types
use Rattle.gltf_rules.specs.declared.records.Records.{Ghosts}
use Rattle.gltf_handles.specs.Handle.{Handle, IsAt}
use Rattle.gltf_handles.specs.Inner.{handle_at}
use Rattle.gltf_handles.specs.Members.{IsCode}
use Rattle.gltf_look.specs.declared.camera.Camera.{Camera}
use Rattle.gltf_look.specs.declared.camera.Orthographic.{Orthographic as OrthographicHandle}
use Rattle.gltf_look.specs.declared.camera.Perspective.{Perspective as PerspectiveHandle}
use Rattle.gltf_look.specs.declared.camera.Projection.{Projection}
use Rattle.gltf_look.specs.declared.camera.Projection.TheVariants.{Orthographic, Perspective}

module _ {D : Type 0} {G : Ghosts D} where
  -- what they show
  abbrev pub camera_handle : Camera D G → Handle CameraRecord
  camera_handle c = handle_at c.inner c.index

  -- the handle of camera i of a document
  abbrev pub IsCamera : Root → ℕ → Camera D G → Type 0
  IsCamera r i c = IsAt r.cameras.items r i (camera_handle c)

-- what projections show
abbrev pub orthographic_record : OrthographicHandle → OrthographicRecord
orthographic_record o = o.json.now

abbrev pub perspective_record : PerspectiveHandle → PerspectiveRecord
perspective_record p = p.json.now

-- the projection that the camera's type names (glTF 2.0, section 5.12.3)
abbrev pub IsProjection : CameraRecord → Projection → Type 0
IsProjection c (Orthographic o) =
    IsCode c.type_ types.Orthographic × (c.orthographic ≡ Some (orthographic_record o))
IsProjection c (Perspective p) =
    IsCode c.type_ types.Perspective × (c.perspective ≡ Some (perspective_record p))
