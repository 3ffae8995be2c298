use Rattle.std.proofs.Common.{[]}
use Rattle.gltf_findings.proofs.Found.{found-where_fails, fails-where_found}
use Rattle.gltf_findings.proofs.laws.a_finding_is_a_condition_that_fails.Goals as goal

pub returns : goal.returns
returns c = λ checks path code. (
  λ found. (let f = fails-where_found [] checks (path, code) found in rw f.1 f.2),
  λ fails. found-where_fails [] checks path code fails,
)
