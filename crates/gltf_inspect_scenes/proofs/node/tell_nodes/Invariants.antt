use Rattle.std.proofs.Common.{◌≡◌, drop}
use Rattle.gltf_validation.specs.Locations.{places_of}
use Rattle.gltf_findings.specs.Checks.{told_after, elements_checks}
use Rattle.gltf_inspect_scenes.specs.Nodes.{node_checks}
use Rattle.gltf_inspect_scenes.proofs.node.tell_nodes.Given as goal

-- what is left of the walk, after what was reported so far, is the whole of it
abbrev pub invariant-loop-i : goal.invariant-loop-i
invariant-loop-i l =
    told_after l.findings (places_of l.location)
    (elements_checks (node_checks l.root.meshes.items l.skinned) l.i (drop l.i l.root.nodes.items))
    ≡ told_after l.initial.findings (places_of l.location)
    (elements_checks (node_checks l.root.meshes.items l.skinned) 0 l.root.nodes.items)
