use Rattle.std.proofs.Common.{take}
use Rattle.std.specs.Io.KnownBytes.{Appends}
use Rattle.gltf_stream.specs.Streams.{bytes_of_all}
use Rattle.gltf_stream.proofs.writing.write_pieces.Given as goal

abbrev pub invariant-pieces : goal.invariant-pieces
invariant-pieces g l =
    Appends (g.W.Write.contents l.initial.writer) (g.W.Write.contents l.writer)
    (bytes_of_all (take l.piece-index l.pieces))
