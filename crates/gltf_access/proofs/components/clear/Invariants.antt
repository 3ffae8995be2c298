use Rattle.std.proofs.Common.{◌≡◌, ◌++◌, drop}
use Rattle.std.specs.Prelude.{replicate}
use Rattle.gltf_access.proofs.components.clear.Given as goal

abbrev pub invariant-loop-i : goal.invariant-loop-i
invariant-loop-i l = l.out ≡ replicate l.i 0 ++ drop l.i l.initial.out
