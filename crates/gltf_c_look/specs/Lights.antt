-- Lights, as C sees them (KHR_lights_punctual).
use Rattle.std.specs.Prelude.{ℕ, [], ◌∷◌, Float, slice_get, Option, None, Some, option_map}
use Rattle.gltf_json.specs.declared.root.Root.{Root}
use Rattle.gltf_json_scene.specs.declared.extensions.scene.khr_lights_punctual.Light.{
  Light,
}
use Rattle.gltf_json_scene.specs.declared.extensions.scene.khr_lights_punctual.Spot as spot
use Rattle.gltf_json_scene.specs.declared.extensions.scene.khr_lights_punctual.«Type» as light
use Rattle.gltf_json_scene.specs.declared.extensions.scene.khr_lights_punctual.«Type».TheVariants.{
  Directional,
  Point,
  Spot,
}
use Rattle.gltf_handles.specs.Sizes.{code_of}
use Rattle.gltf_validation.specs.Lights.{lights_of}
use Rattle.gltf_c_scene.specs.Values.{numbers_else}
use Rattle.gltf_c_look.specs.Numbers.{number_else}
use Rattle.gltf_c_look.specs.declared.number.TheConstants.{NO_NUMBER}
use Rattle.gltf_c_look.specs.declared.light.GltfLight.{GltfLight}
use Rattle.gltf_numbers.specs.Defaults.{default_inner_cone_angle, default_light_color}
use Rattle.gltf_numbers.specs.Defaults.{default_light_intensity, default_outer_cone_angle}

-- the number of a type
abbrev pub type_number : light.«Type» → ℕ
type_number Directional = 0
type_number Point = 1
type_number Spot = 2

-- the angles of a spot's cone
abbrev pub inner_of : Option spot.Spot → Float
inner_of None = default_inner_cone_angle
inner_of (Some s) = number_else default_inner_cone_angle s.inner_cone_angle

abbrev pub outer_of : Option spot.Spot → Float
outer_of None = default_outer_cone_angle
outer_of (Some s) = number_else default_outer_cone_angle s.outer_cone_angle

-- what C sees of a light
abbrev pub shown_light : Light → GltfLight
shown_light l = record {
  type_ = code_of type_number l.type_;
  reserved_word = 0;
  color = numbers_else 3 default_light_color l.color;
  intensity = number_else default_light_intensity l.intensity;
  range = number_else NO_NUMBER l.range;
  inner_cone_angle = inner_of l.spot;
  outer_cone_angle = outer_of l.spot;
  reserved = 0 ∷ 0 ∷ [];
}

abbrev pub light_of : ℕ → Root → Option GltfLight
light_of index r = option_map shown_light (slice_get (lights_of r.extensions) index)
