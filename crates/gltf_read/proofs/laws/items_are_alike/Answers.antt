use Rattle.gltf_read.proofs.AlikeReadings.{items_alike}
use Rattle.gltf_read.proofs.laws.items_are_alike.Goals as goal

pub returns : goal.returns
returns g c = items_alike c.alike_documents_are_read_alike.ensures
