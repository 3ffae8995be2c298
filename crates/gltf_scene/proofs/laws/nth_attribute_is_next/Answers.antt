use Rattle.gltf_scene.proofs.Steps.{nth_next}
use Rattle.gltf_scene.proofs.laws.nth_attribute_is_next.Goals as goal

pub returns : goal.returns
returns g c = nth_next
