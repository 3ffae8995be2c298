use Rattle.gltf_required.specs.Left.{file_of}
use Rattle.gltf_required.proofs.laws.what_is_not_supported_is_refused.Goals as goal

pub returns : goal.returns
returns c = file_of
