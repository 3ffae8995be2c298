use Rattle.std.proofs.Common.{◌≡◌, drop}
use Rattle.gltf_inspect_nodes.specs.Roots.{first_end}
use Rattle.gltf_inspect_nodes.proofs.roots.first_end.Given as goal

-- the first of those that are left is the first of all
abbrev pub invariant-loop-joint : goal.invariant-loop-joint
invariant-loop-joint l =
    first_end l.ends (drop l.joint-index l.joints) ≡ first_end l.ends l.joints
