use Rattle.std.proofs.Common.{◌≡◌, length}
use Rattle.gltf_buffers.specs.Shown.{bytes_of_each}
use Rattle.gltf_trim.specs.Tails.{bytes_of}
use Rattle.gltf_trimmed.specs.Laws.{cut_all}
use Rattle.gltf_split.proofs.left.cut_all.Given as goal

abbrev pub invariant-buffers : goal.invariant-buffers
invariant-buffers l = record {
  count : length l.all.items ≡ length l.yielded;
  bytes : bytes_of_each l.all.items ≡ cut_all l.lengths (bytes_of l.yielded);
}
