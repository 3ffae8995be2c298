use Rattle.std.proofs.Common.{◌≡◌, drop}
use Rattle.gltf_inspect.specs.Versions.{first_greater}
use Rattle.gltf_inspect.proofs.asset.first_greater.Given as goal

-- what was passed are the same digits
abbrev pub invariant-loop-i : goal.invariant-loop-i
invariant-loop-i l = first_greater (drop l.i l.a) (drop l.i l.b) ≡ first_greater l.a l.b
