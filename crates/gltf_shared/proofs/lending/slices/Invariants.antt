use Rattle.std.proofs.Common.{◌≡◌, take}
use Rattle.gltf_shared.specs.Shown.{bytes_of_each, lent_bytes}
use Rattle.gltf_shared.proofs.lending.slices.Given as goal

abbrev pub invariant-loop-data : goal.invariant-loop-data
invariant-loop-data l = lent_bytes l.lent.items ≡ bytes_of_each (take l.data-index l.buffers)
