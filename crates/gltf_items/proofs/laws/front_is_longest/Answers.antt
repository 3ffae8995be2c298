use Rattle.gltf_items.proofs.Fronts.{front_is}
use Rattle.gltf_items.proofs.laws.front_is_longest.Goals as goal

pub returns : goal.returns
returns g c indices values = front_is indices values
