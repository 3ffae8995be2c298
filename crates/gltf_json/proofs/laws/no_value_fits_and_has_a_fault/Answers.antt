use Rattle.gltf_json.specs.Documents.{root}
use Rattle.gltf_json.proofs.laws.no_value_fits_and_has_a_fault.Goals as goal

pub returns : goal.returns
returns c = root.apart
