use Rattle.std.proofs.Common.{◌≡◌}
use Rattle.gltf_inspect_scenes.specs.Nodes.{has_joints}
use Rattle.gltf_inspect_scenes.proofs.node.has_joints.Given as goal

-- JOINTS_0 is among those that are left exactly where it is among all
abbrev pub invariant-loop-semantic : goal.invariant-loop-semantic
invariant-loop-semantic l = has_joints l.semantic-iterator ≡ has_joints l.attributes.entries
