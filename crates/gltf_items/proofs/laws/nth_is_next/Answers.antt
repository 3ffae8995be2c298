use Rattle.gltf_items.proofs.Nexts.{nth_next}
use Rattle.gltf_items.proofs.laws.nth_is_next.Goals as goal

pub returns : goal.returns
returns g c items n = nth_next items n
