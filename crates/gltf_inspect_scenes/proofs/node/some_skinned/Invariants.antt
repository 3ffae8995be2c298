use Rattle.std.proofs.Common.{◌≡◌, drop}
use Rattle.gltf_inspect_scenes.specs.Nodes.{some_skinned}
use Rattle.gltf_inspect_scenes.proofs.node.some_skinned.Given as goal

-- one of those that are left is skinned exactly where one of all is
abbrev pub invariant-loop-primitive : goal.invariant-loop-primitive
invariant-loop-primitive l =
    some_skinned (drop l.primitive-index l.primitives) ≡ some_skinned l.primitives
