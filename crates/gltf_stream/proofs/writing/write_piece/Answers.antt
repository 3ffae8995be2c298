use Rattle.std.proofs.Common.{arith}
use Rattle.gltf_stream.proofs.Pieces.{writes_on}
use Rattle.gltf_stream.proofs.writing.write_piece.Goals as goal

pub writes-preserved : goal.writes-preserved
writes-preserved g c = (
  writes_on (g.W.Write.contents c.args.writer.now) (g.W.Write.contents c.writes.writer)
      (g.W.Write.contents c.write.new.self) c.writes.at c.in_ok-taken.taken
      c.args.bytes.now c.split_at.result.1.now (omega arith) c.split_at.ensures.back
      c.writes.invariant.0 c.in_ok-taken.ensures.bytes,
  omega (arith, c.in_ok-taken.ensures.bound, c.split_at.ensures.back_len),
)
