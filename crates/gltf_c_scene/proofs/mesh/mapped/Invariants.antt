use Rattle.std.proofs.Common.{◌≡◌, drop}
use Rattle.gltf_c_scene.specs.Meshes.{mapped}
use Rattle.gltf_c_scene.proofs.mesh.mapped.Given as goal

-- the first mapping of those that are left is that of all
abbrev pub invariant-loop-mapping : goal.invariant-loop-mapping
invariant-loop-mapping l =
    mapped l.variant (drop l.mapping-index l.mappings) ≡ mapped l.variant l.mappings
