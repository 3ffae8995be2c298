use Rattle.std.proofs.Common.{arith}
use Rattle.gltf_stream.specs.Streams.{WritesBeginning, bytes_of_all}
use Rattle.gltf_stream.proofs.Pieces.{writes_more, on_err}
use Rattle.gltf_stream.proofs.writing.write_pieces.Goals as goal

pub returns-in_err-write_piece-clause-err : goal.returns-in_err-write_piece-clause-err
returns-in_err-write_piece-clause-err g c =
    on_err c.from_residual.result
    (WritesBeginning (g.W.Write.contents c.args.writer.now)
    (g.W.Write.contents c.write_piece.new.writer) (bytes_of_all c.args.pieces.now))
    (writes_more (g.W.Write.contents c.args.writer.now) (g.W.Write.contents c.pieces.writer)
    (g.W.Write.contents c.write_piece.new.writer) c.args.pieces.now c.pieces.piece-index _
    (omega arith) c.pieces.invariant c.in_err-write_piece.ensures.err)
