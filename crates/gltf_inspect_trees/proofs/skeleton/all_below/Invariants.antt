use Rattle.std.proofs.Common.{◌≡◌, drop}
use Rattle.gltf_inspect_trees.specs.Skeletons.{all_below}
use Rattle.gltf_inspect_trees.specs.Trees.{is_below_in}
use Rattle.gltf_inspect_trees.proofs.skeleton.all_below.Given as goal

-- those that are left are below where all are
abbrev pub invariant-loop-joint : goal.invariant-loop-joint
invariant-loop-joint l =
    all_below (is_below_in l.trees l.above) l.count (drop l.joint-index l.joints)
    ≡ all_below (is_below_in l.trees l.above) l.count l.joints
