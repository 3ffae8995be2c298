use Rattle.std.proofs.Common.{◌≡◌, map, Ok}
use Rattle.gltf_buffers.specs.Buffers.{source_of, blob_for}
use Rattle.gltf_buffers.specs.Shown.{blob_bytes}
use Rattle.gltf_shared.specs.Given.{NoneFailed}
use Rattle.gltf_shared.specs.Shown.{bytes_of_each}
use Rattle.gltf_shared.proofs.Walked.{IsWalked}
use Rattle.gltf_shared.proofs.reading.read_shared.Given as goal

abbrev pub invariant-buffers : goal.invariant-buffers
invariant-buffers g l = record {
  walked : IsWalked g.N.AskUpTo.asks (g.N.AskUpTo.names l.initial.names)
      (map source_of l.buffers) (blob_bytes l.fn.blob) l.index (map Ok (bytes_of_each l.all.items))
      l.held l.initial.names l.names;
  rest : blob_bytes l.left ≡ blob_for (map source_of l.buffers) (blob_bytes l.fn.blob) l.index;
  names : g.N.AskUpTo.names l.names ≡ g.N.AskUpTo.names l.initial.names;
  none : NoneFailed l.held;
  noted : g.N.AskUpTo.failures l.names ≡ g.N.AskUpTo.failures l.initial.names;
}
