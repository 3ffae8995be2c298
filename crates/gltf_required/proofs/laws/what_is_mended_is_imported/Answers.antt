use Rattle.gltf_required.specs.Mended.{accepted_of}
use Rattle.gltf_required.proofs.laws.what_is_mended_is_imported.Goals as goal

pub returns : goal.returns
returns c = accepted_of
