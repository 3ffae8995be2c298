use Rattle.gltf_inspect_values.specs.Documents.{values_checks}
use Rattle.gltf_inspect_values.proofs.laws.a_code_is_found_exactly_where_its_condition_fails.Goals as goal

pub returns : goal.returns
returns c = λ r bytes. c.a_finding_is_a_condition_that_fails.ensures (values_checks r bytes)
