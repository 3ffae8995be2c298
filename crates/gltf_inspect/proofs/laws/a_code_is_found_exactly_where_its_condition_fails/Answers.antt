use Rattle.gltf_inspect.specs.Documents.{root_checks}
use Rattle.gltf_inspect.proofs.laws.a_code_is_found_exactly_where_its_condition_fails.Goals as goal

pub returns : goal.returns
returns c = λ r. c.a_finding_is_a_condition_that_fails.ensures (root_checks r)
