use Rattle.gltf_trim.specs.Passed.{AreBlank}
use Rattle.gltf_trim.specs.Tails.{bytes_of}
use Rattle.gltf_trim.proofs.passed.unpassed.Given as goal

abbrev pub invariant-loop-i : goal.invariant-loop-i
invariant-loop-i l = AreBlank l.marks (bytes_of l.bytes) l.places.items l.left.items
