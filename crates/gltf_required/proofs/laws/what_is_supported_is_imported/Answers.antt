use Rattle.gltf_required.specs.Left.{accepted_of}
use Rattle.gltf_required.proofs.laws.what_is_supported_is_imported.Goals as goal

pub returns : goal.returns
returns c = accepted_of
