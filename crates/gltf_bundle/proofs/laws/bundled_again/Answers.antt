use Rattle.gltf_bundle.proofs.Twice.{bundles_again}
use Rattle.gltf_bundle.proofs.laws.bundled_again.Goals as goal

pub returns : goal.returns
returns c = bundles_again c.one_text_and_blob.ensures c.reads_back.ensures c.spaces_behind.ensures
