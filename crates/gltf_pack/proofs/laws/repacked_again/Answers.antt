use Rattle.gltf_pack.proofs.Parts.{repacked_again}
use Rattle.gltf_pack.proofs.laws.repacked_again.Goals as goal

pub returns : goal.returns
returns c = repacked_again c.one_text_and_blob.ensures c.reads_back.ensures c.filled_once.ensures
