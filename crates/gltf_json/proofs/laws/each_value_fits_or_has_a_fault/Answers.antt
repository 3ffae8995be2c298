use Rattle.gltf_json.specs.Documents.{root}
use Rattle.gltf_json.proofs.laws.each_value_fits_or_has_a_fault.Goals as goal

pub returns : goal.returns
returns c = root.either
