-- The numbers of lights (KHR_lights_punctual).
use Rattle.std.specs.Prelude.{Option, Some}
use Rattle.std.specs.Option.{option_copied}
use Rattle.gltf_json_scene.specs.declared.extensions.scene.khr_lights_punctual.Light.{
  Light as LightRecord,
}
use Rattle.gltf_look.specs.declared.khr_lights_punctual.Kind.{Kind as KindHandle}
use Rattle.gltf_look.specs.declared.khr_lights_punctual.Kind.TheVariants as handles
use Rattle.gltf_numbers.specs.Numbers.{given, number_if, number_or, numbers_or}
use Rattle.gltf_numbers.specs.declared.khr_lights_punctual.Light.{Light}
use Rattle.gltf_numbers.specs.declared.khr_lights_punctual.Kind.{Kind}
use Rattle.gltf_numbers.specs.declared.khr_lights_punctual.Kind.TheVariants.{
  Directional,
  Point,
  Spot,
}
use Rattle.gltf_numbers.specs.Defaults.{default_inner_cone_angle, default_light_color}
use Rattle.gltf_numbers.specs.Defaults.{default_light_intensity, default_outer_cone_angle}

-- of a light, which may have no range ("Light Shared Properties")
abbrev pub light_numbers : LightRecord → Option Light
light_numbers l =
    given (numbers_or 3 default_light_color l.color) (λ color.
    given (number_or default_light_intensity l.intensity) (λ intensity.
    given (number_if l.range) (λ range.
    Some (record { color = color; intensity = intensity; range = range }))))

-- of how it shines: the angles of a spot's cone ("Light Types")
abbrev pub kind_numbers : KindHandle → Option Kind
kind_numbers handles.Directional = Some Directional
kind_numbers handles.Point = Some Point
kind_numbers (handles.Spot inner outer) =
    given (number_or default_inner_cone_angle (option_copied inner)) (λ i.
    given (number_or default_outer_cone_angle (option_copied outer)) (λ o.
    Some (Spot i o)))
