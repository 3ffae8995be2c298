use Rattle.std.proofs.Common.{◌≡◌, drop}
use Rattle.gltf_names.proofs.Schemes.{ends}
use Rattle.gltf_names.proofs.outside.ends_scheme.Given as goal

abbrev pub invariant-loop-byte : goal.invariant-loop-byte
invariant-loop-byte l = ends (drop l.byte-index l.bytes) ≡ ends l.bytes
