-- Lights, and of the light at a node that show the same have the same rules.
use Rattle.std.proofs.Common.{◌≡◌, ap}
use Rattle.std.specs.Prelude.{codes}
use Rattle.gltf_json_scene.specs.Lights.{light, node_light, spot}
use Rattle.gltf_json_scene.specs.declared.extensions.scene.khr_lights_punctual.Light.{Light}
use Rattle.gltf_json_scene.specs.declared.extensions.scene.KhrLightsPunctual.{KhrLightsPunctual}
use Rattle.gltf_validation.specs.declared.counts.Counts.{Counts}
use Rattle.gltf_validation.specs.Members.{code_rules, index_rules}
use Rattle.gltf_validation.specs.Lights.{light_rules, names_spot, node_light_rules}
use Rattle.gltf_validation.proofs.Alike.{at, both, needed_alike}

pub light_rules-alike : (c : Counts) (x y : Light) → light.content x ≡ light.content y
    → light_rules c x ≡ light_rules c y
unfolding light
light_rules-alike c x y e =
    both (at (codes "type") (ap code_rules (ap (λ s. s.1.1.1.0) e)))
    (at (codes "spot") (needed_alike spot.content (names_spot x.type_)
    (names_spot y.type_) x.spot y.spot (ap names_spot (ap (λ s. s.1.1.1.0) e))
    (ap (λ s. s.1.1.1.1.0) e)))

pub node_light_rules-alike : (c : Counts) (x y : KhrLightsPunctual)
    → node_light.content x ≡ node_light.content y → node_light_rules c x ≡ node_light_rules c y
unfolding node_light
node_light_rules-alike c x y e =
    at (codes "light") (ap (index_rules c.lights) e)
