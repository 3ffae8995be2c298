use Rattle.std.proofs.Common.{◌≡◌, ◌++◌, take, drop}
use Rattle.gltf_c_scene.proofs.numbers.write_indices.Given as goal

-- so many are written, and what follows is as it was
abbrev pub invariant-loop-i : goal.invariant-loop-i
invariant-loop-i g l = l.out ≡ take l.i l.list ++ drop l.i l.fn.out
