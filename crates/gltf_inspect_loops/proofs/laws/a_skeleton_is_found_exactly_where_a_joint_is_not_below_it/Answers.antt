use Rattle.gltf_findings.specs.declared.code.Code.TheVariants.{SkinSkeletonInvalid}
use Rattle.gltf_inspect_trees.specs.Skeletons.{skeletons_checks}
use Rattle.gltf_inspect_loops.proofs.Skeletons.{found_skeleton, skeleton_found}
use Rattle.gltf_inspect_loops.proofs.laws.a_skeleton_is_found_exactly_where_a_joint_is_not_below_it.Goals as goal

pub returns : goal.returns
returns c = λ r path few no_loop.
    let law = c.a_finding_is_a_condition_that_fails.ensures
    (skeletons_checks r) path SkinSkeletonInvalid in (
      λ found. found_skeleton r path few no_loop (law.0 found),
      λ it. law.1 (skeleton_found r path it.0 it.1 few no_loop it.2 it.3 it.4),
    )
