use Rattle.std.proofs.Common.{◌≡◌, map}
use Rattle.gltf_buffers.specs.Buffers.{source_of, blob_for}
use Rattle.gltf_buffers.specs.Shown.{blob_bytes, bytes_of_each}
use Rattle.gltf_c_open.specs.Buffers.{HaveOrAwait}
use Rattle.gltf_c_open.proofs.buffers.had_or_awaited.Given as goal

abbrev pub invariant-buffers : goal.invariant-buffers
invariant-buffers l = record {
  so_far : HaveOrAwait l.fn.wanted (map source_of l.buffers) (blob_bytes l.fn.blob) l.index
      (bytes_of_each l.all.items) l.waiting.items;
  rest : blob_bytes l.left ≡ blob_for (map source_of l.buffers) (blob_bytes l.fn.blob) l.index;
}
