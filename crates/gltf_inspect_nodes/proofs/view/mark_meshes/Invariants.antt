use Rattle.std.proofs.Common.{◌≡◌, drop}
use Rattle.gltf_inspect_nodes.specs.ViewMarks.{meshes_marked}
use Rattle.gltf_inspect_nodes.proofs.view.mark_meshes.Given as goal

-- what is left to be marked, after what was so far, is the whole
abbrev pub invariant-loop-mesh : goal.invariant-loop-mesh
invariant-loop-mesh l =
    meshes_marked l.accessors l.marks.items (drop l.mesh-index l.meshes)
    ≡ meshes_marked l.accessors l.initial.marks.items l.meshes
