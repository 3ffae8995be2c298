use Rattle.gltf_mended.specs.Edited.{uris_left}
use Rattle.gltf_mended.proofs.laws.uris_are_left.Goals as goal

pub returns : goal.returns
returns c = uris_left
