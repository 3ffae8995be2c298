use Rattle.std.proofs.Common.{◌≡◌, drop}
use Rattle.gltf_inspect.specs.Versions.{significant}
use Rattle.gltf_inspect.proofs.asset.significant.Given as goal

-- what was passed are zeros
abbrev pub invariant-loop-i : goal.invariant-loop-i
invariant-loop-i l = significant (drop l.i l.digits) ≡ significant l.digits
