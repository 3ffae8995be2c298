use Rattle.gltf_json.specs.Documents.{root}
use Rattle.gltf_json.proofs.laws.a_document_fits.Goals as goal

pub returns : goal.returns
returns c = root.needs
