-- Handles of lights.
use Rattle.std.specs.Prelude.{◌≡◌, ℕ, IsSomeAnd}
use Rattle.std.specs.Option.{option_copied}
use Rattle.gltf_json.specs.declared.root.Root.{Root}
use Rattle.gltf_json_scene.specs.declared.extensions.scene.khr_lights_punctual.Light.{
  Light as LightRecord,
}
use Rattle.gltf_json_scene.specs.declared.extensions.scene.khr_lights_punctual.«Type».TheVariants as types
use Rattle.gltf_rules.specs.declared.records.Records.{Ghosts}
use Rattle.gltf_handles.specs.Handle.{Handle, IsAt}
use Rattle.gltf_handles.specs.Inner.{handle_at}
use Rattle.gltf_handles.specs.Members.{IsCode}
use Rattle.gltf_validation.specs.Lights.{lights_of}
use Rattle.gltf_look.specs.declared.khr_lights_punctual.Light.{Light}
use Rattle.gltf_look.specs.declared.khr_lights_punctual.Kind.{Kind}
use Rattle.gltf_look.specs.declared.khr_lights_punctual.Kind.TheVariants.{Directional, Point, Spot}

module _ {D : Type 0} {G : Ghosts D} where
  -- what they show
  abbrev pub light_handle : Light D G → Handle LightRecord
  light_handle l = handle_at l.inner l.index

  -- the handle of light i of a document
  abbrev pub IsLight : Root → ℕ → Light D G → Type 0
  IsLight r i l = IsAt (lights_of r.extensions) r i (light_handle l)

-- how the light shines, and of a spot the angles of its cone (KHR_lights_punctual, "Light Types")
abbrev pub IsKind : LightRecord → Kind → Type 0
IsKind l Directional = IsCode l.type_ types.Directional
IsKind l Point = IsCode l.type_ types.Point
IsKind l (Spot inner outer) =
    IsCode l.type_ types.Spot
    × IsSomeAnd l.spot (λ s. (option_copied inner ≡ s.inner_cone_angle)
    × (option_copied outer ≡ s.outer_cone_angle))
