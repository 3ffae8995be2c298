use Rattle.std.proofs.Common.{◌≡◌, take}
use Rattle.gltf_buffers.specs.Shown.{bytes_of_each}
use Rattle.gltf_shared.specs.Shown.{lent_bytes}
use Rattle.gltf_shared.proofs.lending.lent.Given as goal

abbrev pub invariant-loop-buffer : goal.invariant-loop-buffer
invariant-loop-buffer l = lent_bytes l.lent.items ≡ bytes_of_each (take l.buffer-index l.buffers)
