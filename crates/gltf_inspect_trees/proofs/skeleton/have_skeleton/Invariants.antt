use Rattle.std.proofs.Common.{◌≡◌, drop}
use Rattle.gltf_inspect_trees.specs.Skeletons.{have_skeleton}
use Rattle.gltf_inspect_trees.proofs.skeleton.have_skeleton.Given as goal

-- one of those that are left has a skeleton where one of all has
abbrev pub invariant-loop-skin : goal.invariant-loop-skin
invariant-loop-skin l = have_skeleton (drop l.skin-index l.skins) ≡ have_skeleton l.skins
