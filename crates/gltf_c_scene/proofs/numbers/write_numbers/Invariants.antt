use Rattle.std.proofs.Common.{◌≡◌, ◌++◌, take, drop}
use Rattle.std.specs.Option.{option_copied}
use Rattle.gltf_c_scene.specs.Values.{listed_numbers}
use Rattle.gltf_c_scene.proofs.numbers.write_numbers.Given as goal

-- so many are written, and what follows is as it was
abbrev pub invariant-loop-i : goal.invariant-loop-i
invariant-loop-i l =
    l.out ≡ take l.i (listed_numbers (option_copied l.member)) ++ drop l.i l.fn.out
