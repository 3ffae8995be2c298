use Rattle.std.proofs.Common.{◌≡◌, drop}
use Rattle.gltf_c_scene.specs.Variants.{stray}
use Rattle.gltf_c_scene.proofs.variant.stray.Given as goal

-- what is found from here on is what is found at all
abbrev pub invariant-loop-i : goal.invariant-loop-i
invariant-loop-i l = stray l.count l.variant l.i (drop l.i l.mappings) ≡ stray l.count l.variant 0 l.mappings
