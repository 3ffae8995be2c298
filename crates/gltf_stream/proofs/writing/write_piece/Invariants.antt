use Rattle.std.proofs.Common.{◌≤◌, ◌-◌, length, take}
use Rattle.std.specs.Io.KnownBytes.{Appends}
use Rattle.gltf_stream.proofs.writing.write_piece.Given as goal

abbrev pub invariant-writes : goal.invariant-writes
invariant-writes g l =
    Appends (g.W.Write.contents l.initial.writer) (g.W.Write.contents l.writer)
    (take l.at l.bytes)
    × (l.at ≤ length l.bytes)

abbrev pub decreases-writes : goal.decreases-writes
decreases-writes g l = length l.bytes - l.at
