use Rattle.std.proofs.Common.{◌≡◌, drop}
use Rattle.gltf_c_scene.specs.Meshes.{has_number}
use Rattle.gltf_c_scene.proofs.mesh.has_variant.Given as goal

-- the number is among those that are left where it is among all
abbrev pub invariant-loop-number : goal.invariant-loop-number
invariant-loop-number l =
    has_number l.variant (drop l.number-index l.variants) ≡ has_number l.variant l.variants
