use Rattle.gltf_findings.specs.declared.code.Code.TheVariants.{NodeLoop}
use Rattle.gltf_inspect_nodes.specs.Roots.{roots_checks}
use Rattle.gltf_inspect_loops.proofs.Found.{found_loop, loop_found}
use Rattle.gltf_inspect_loops.proofs.laws.a_loop_is_found_exactly_at_nodes_above_themselves.Goals as goal

pub returns : goal.returns
returns c = λ r path few. (
  λ found. found_loop r path few
      ((c.a_finding_is_a_condition_that_fails.ensures (roots_checks r) path NodeLoop).0 found),
  λ above. (c.a_finding_is_a_condition_that_fails.ensures (roots_checks r) path NodeLoop).1
      (loop_found r path above.0 above.2 above.1 above.3),
)
