use Rattle.std.proofs.Common.{◌≡◌}
use Rattle.gltf_buffers.specs.Shown.{bytes_of_each}
use Rattle.gltf_trim.specs.Tails.{bytes_of}
use Rattle.gltf_split.proofs.left.all_bytes.Given as goal

abbrev pub invariant-buffers : goal.invariant-buffers
invariant-buffers l = record { bytes : bytes_of l.all.items ≡ bytes_of_each l.yielded }
