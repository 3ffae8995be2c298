use Rattle.gltf_detached.proofs.Uris.{leads}
use Rattle.gltf_detached.proofs.laws.uris_lead_to_names.Goals as goal

pub returns : goal.returns
returns c = leads
