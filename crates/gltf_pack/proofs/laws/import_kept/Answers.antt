use Rattle.gltf_pack.proofs.Kept.{import_kept}
use Rattle.gltf_pack.proofs.laws.import_kept.Goals as goal

pub returns : goal.returns
returns c = import_kept c.one_text_and_blob.ensures c.reads_back.ensures c.spaces_behind.ensures
