use Rattle.gltf_required.specs.Mended.{file_of}
use Rattle.gltf_required.proofs.laws.what_is_not_mended_is_refused.Goals as goal

pub returns : goal.returns
returns c = file_of
