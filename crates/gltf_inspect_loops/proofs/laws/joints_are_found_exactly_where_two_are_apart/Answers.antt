use Rattle.gltf_findings.specs.declared.code.Code.TheVariants.{SkinNoCommonRoot}
use Rattle.gltf_inspect_nodes.specs.Roots.{roots_checks}
use Rattle.gltf_inspect_loops.proofs.Found.{found_joints, joints_found}
use Rattle.gltf_inspect_loops.proofs.laws.joints_are_found_exactly_where_two_are_apart.Goals as goal

pub returns : goal.returns
returns c = λ r path few no_loop.
    let law = c.a_finding_is_a_condition_that_fails.ensures
    (roots_checks r) path SkinNoCommonRoot in (
      λ found. found_joints r path few no_loop (law.0 found),
      λ it. law.1 (joints_found r path it.0 it.1 few no_loop it.2 it.3 it.4),
    )
