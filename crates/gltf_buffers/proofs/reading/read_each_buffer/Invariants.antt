use Rattle.std.proofs.Common.{◌≡◌, ◌≤◌, length, map}
use Rattle.std.specs.Prelude.{vec_len, vec_capacity}
use Rattle.gltf_buffers.specs.Buffers.{source_of, blob_for}
use Rattle.gltf_buffers.specs.Each.{AreAnswers, NotesEach}
use Rattle.gltf_buffers.specs.Shown.{blob_bytes, answer_of_each}
use Rattle.gltf_buffers.proofs.reading.read_each_buffer.Given as goal

abbrev pub invariant-buffers : goal.invariant-buffers
invariant-buffers g l = record {
  so_far : AreAnswers (g.N.Ask.names l.initial.names) (map source_of l.buffers)
      (blob_bytes l.fn.blob) l.index (answer_of_each l.all.items);
  noted : NotesEach (map source_of l.buffers) (answer_of_each l.all.items)
      (g.N.Ask.failures l.initial.names) (g.N.Ask.failures l.names);
  rest : blob_bytes l.left ≡ blob_for (map source_of l.buffers) (blob_bytes l.fn.blob) l.index;
  names : g.N.Ask.names l.names ≡ g.N.Ask.names l.initial.names;
  long : vec_len l.all ≡ l.index;
  room : length l.buffers ≤ vec_capacity l.all;
}
