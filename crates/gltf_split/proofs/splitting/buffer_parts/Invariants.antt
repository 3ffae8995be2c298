use Rattle.std.proofs.Common.{◌≡◌}
use Rattle.gltf_buffers.specs.Shown.{bytes_of_each}
use Rattle.gltf_split.specs.Splits.{AreNamed, bytes_of_parts}
use Rattle.gltf_split.proofs.splitting.buffer_parts.Given as goal

abbrev pub invariant-buffers : goal.invariant-buffers
invariant-buffers l = record {
  bytes : bytes_of_parts l.parts.items ≡ bytes_of_each l.yielded;
  named : AreNamed l.stem l.count 0 l.parts.items;
}
