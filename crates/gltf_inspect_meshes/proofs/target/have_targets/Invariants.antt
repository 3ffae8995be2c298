use Rattle.std.proofs.Common.{◌≡◌, drop}
use Rattle.gltf_inspect_meshes.specs.Targets.{have_targets}
use Rattle.gltf_inspect_meshes.proofs.target.have_targets.Given as goal

-- those that are left have so many exactly where all have
abbrev pub invariant-loop-primitive : goal.invariant-loop-primitive
invariant-loop-primitive l =
    have_targets l.count (drop l.primitive-index l.primitives) ≡ have_targets l.count l.primitives
