use Rattle.std.proofs.Common.{◌≡◌, ◌++◌, drop}
use Rattle.gltf_trim.specs.Tails.{bytes_of, all_tails}
use Rattle.gltf_trim.proofs.tails.tails.Given as goal

abbrev pub invariant-loop-i : goal.invariant-loop-i
invariant-loop-i l =
    bytes_of l.all.items ++ all_tails l.marks l.ends l.i (bytes_of (drop l.i l.bytes))
    ≡ all_tails l.marks l.ends 0 (bytes_of l.bytes)
