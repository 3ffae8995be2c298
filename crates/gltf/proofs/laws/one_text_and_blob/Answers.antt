use Rattle.gltf.proofs.Parts.{one_parts}
use Rattle.gltf.proofs.laws.one_text_and_blob.Goals as goal

pub returns : goal.returns
returns c = one_parts c.one_reading.ensures
