use Rattle.std.proofs.Common.{◌≡◌, ◌++◌, drop, map}
use Rattle.gltf_inspect_scenes.specs.Nodes.{is_skinned, skinned_meshes}
use Rattle.gltf_inspect_scenes.proofs.node.skinned_meshes.Given as goal

-- those that were looked at, and those that are left, are all
abbrev pub invariant-loop-mesh : goal.invariant-loop-mesh
invariant-loop-mesh l =
    l.skinned.items ++ map (λ m. is_skinned m) (drop l.mesh-index l.root.meshes.items)
    ≡ skinned_meshes l.root
