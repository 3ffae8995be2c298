use Rattle.gltf_pack.proofs.Parts.{one_answer}
use Rattle.gltf_pack.proofs.laws.one_answer.Goals as goal

pub returns : goal.returns
returns c = one_answer c.one_text_and_blob.ensures
