use Rattle.std.proofs.Common.{◌≡◌, drop}
use Rattle.gltf_inspect_nodes.specs.Marks.{is_marked}
use Rattle.gltf_inspect_nodes.specs.Roots.{leads_to_loop}
use Rattle.gltf_inspect_nodes.proofs.roots.leads_to_loop.Given as goal

-- one of those that are left leads there where one of all does
abbrev pub invariant-loop-joint : goal.invariant-loop-joint
invariant-loop-joint l =
    leads_to_loop (is_marked l.are_children) l.ends (drop l.joint-index l.joints)
    ≡ leads_to_loop (is_marked l.are_children) l.ends l.joints
