use Rattle.gltf_findings.proofs.Found.{told_after-found}
use Rattle.gltf_findings.proofs.laws.a_walk_adds_what_is_found.Goals as goal

pub returns : goal.returns
returns c = told_after-found
