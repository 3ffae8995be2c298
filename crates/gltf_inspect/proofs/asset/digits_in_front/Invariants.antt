use Rattle.std.proofs.Common.{◌≡◌, ◌+◌, drop}
use Rattle.gltf_inspect.specs.Versions.{digits_in_front}
use Rattle.gltf_inspect.proofs.asset.digits_in_front.Given as goal

-- what was passed, and the digits in front of what is left
abbrev pub invariant-loop-i : goal.invariant-loop-i
invariant-loop-i l = l.i + digits_in_front (drop l.i l.text) ≡ digits_in_front l.text
