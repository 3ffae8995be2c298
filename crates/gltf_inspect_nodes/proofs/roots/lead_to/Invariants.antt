use Rattle.std.proofs.Common.{◌≡◌, drop}
use Rattle.gltf_inspect_nodes.specs.Roots.{lead_to}
use Rattle.gltf_inspect_nodes.proofs.roots.lead_to.Given as goal

-- those that are left lead there where all do
abbrev pub invariant-loop-joint : goal.invariant-loop-joint
invariant-loop-joint l =
    lead_to l.ends l.end (drop l.joint-index l.joints) ≡ lead_to l.ends l.end l.joints
