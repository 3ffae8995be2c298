-- The lights of a document, and the rules of lights and of the light at a node
-- (KHR_lights_punctual), in the order of their members.
use Rattle.std.specs.Prelude.{List, [], Option, Some, None, Bool, codes, false, true}
use Rattle.std.specs.Option.{option_and_then}
use Rattle.gltf_json.specs.declared.extensions.root.KhrLightsPunctual.{
  KhrLightsPunctual as LightsExtension,
}
use Rattle.gltf_json.specs.declared.extensions.root.Root as extended
use Rattle.gltf_json_scene.specs.declared.extensions.scene.khr_lights_punctual.Light.{Light}
use Rattle.gltf_json_scene.specs.declared.extensions.scene.KhrLightsPunctual.{KhrLightsPunctual}
use Rattle.gltf_json_scene.specs.declared.extensions.scene.khr_lights_punctual.«Type» as light
use Rattle.gltf_json_scene.specs.declared.extensions.scene.khr_lights_punctual.«Type».TheVariants.{
  Directional,
}
use Rattle.gltf_json_scene.specs.declared.extensions.scene.khr_lights_punctual.«Type».TheVariants.{
  Point,
}
use Rattle.gltf_json_scene.specs.declared.extensions.scene.khr_lights_punctual.«Type».TheVariants.{
  Spot,
}
use Rattle.gltf_json_record.specs.declared.validation.Checked.{Checked}
use Rattle.gltf_json_record.specs.declared.validation.Checked.TheVariants.{Invalid, Valid}
use Rattle.gltf_validation.specs.declared.counts.Counts.{Counts}
use Rattle.gltf_validation.specs.Rules.{Rules, ◌&◌}
use Rattle.gltf_validation.specs.Members.{member, code_rules, index_rules, needed_rules}

-- the extension that holds the lights, where it is there
abbrev pub lights_extension : Option extended.Root → Option LightsExtension
lights_extension extensions = option_and_then (λ e. e.khr_lights_punctual) extensions

-- the lights: none, where the extension is absent
abbrev pub lights_within : Option LightsExtension → List Light
lights_within None = []
lights_within (Some extension) = extension.lights.items

abbrev pub lights_of : Option extended.Root → List Light
lights_of extensions = lights_within (lights_extension extensions)

-- whether a light's type names a spot
abbrev pub names_spot : Checked light.«Type» → Bool
names_spot Invalid = false
names_spot (Valid Directional) = false
names_spot (Valid Point) = false
names_spot (Valid Spot) = true

abbrev pub light_rules : Counts → Light → Rules
light_rules c r =
    member (codes "type") (code_rules r.type_)
    & member (codes "spot") (needed_rules (names_spot r.type_) r.spot)

abbrev pub node_light_rules : Counts → KhrLightsPunctual → Rules
node_light_rules c r =
    member (codes "light") (index_rules c.lights r.light)
