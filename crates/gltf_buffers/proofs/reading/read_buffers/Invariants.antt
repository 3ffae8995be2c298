use Rattle.std.proofs.Common.{◌≡◌, map, true}
use Rattle.std.specs.Prelude.{take, is_some}
use Rattle.std.specs.List.{list_all}
use Rattle.gltf_buffers.specs.Buffers.{source_of, blob_for, AreBytes}
use Rattle.gltf_buffers.specs.Moved.{HandsOn}
use Rattle.gltf_buffers.specs.Shown.{blob_bytes, bytes_of_each}
use Rattle.gltf_buffers.proofs.reading.read_buffers.Given as goal

abbrev pub invariant-buffers : goal.invariant-buffers
invariant-buffers g l = record {
  so_far : AreBytes (g.N.Ask.names l.initial.names) (map source_of l.buffers)
      (blob_bytes l.fn.blob) l.index (bytes_of_each l.all.items);
  rest : blob_bytes l.left ≡ blob_for (map source_of l.buffers) (blob_bytes l.fn.blob) l.index;
  whole : list_all (λ s. is_some s.uri) (take l.index (map source_of l.buffers)) ≡ true
      → l.left ≡ l.fn.blob;
  moved : HandsOn (map source_of l.buffers) l.fn.blob l.all.items;
  names : g.N.Ask.names l.names ≡ g.N.Ask.names l.initial.names;
  failures : g.N.Ask.failures l.names ≡ g.N.Ask.failures l.initial.names;
}
