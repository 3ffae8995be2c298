use Rattle.std.proofs.Common.{◌≡◌, take}
use Rattle.gltf_detach.specs.Detached.{texts}
use Rattle.gltf_detach.specs.Naming.{buffer_uris}
use Rattle.gltf_detach.proofs.naming.buffer_uris.Given as goal

abbrev pub invariant-loop-part : goal.invariant-loop-part
invariant-loop-part l = record {
  seen : texts l.uris.items ≡ buffer_uris (take l.part-index l.parts);
}
