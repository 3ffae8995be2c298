use Rattle.gltf_read.proofs.AlikeReadings.{typed_items_alike}
use Rattle.gltf_read.proofs.laws.typed_items_are_alike.Goals as goal

pub returns : goal.returns
returns g c = typed_items_alike c.alike_documents_are_read_alike.ensures
