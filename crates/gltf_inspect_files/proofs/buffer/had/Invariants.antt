use Rattle.std.proofs.Common.{◌≡◌}
use Rattle.gltf_shared.specs.Shown.{answer_of_each, bytes_of_each}
use Rattle.gltf_inspect_files.specs.Buffers.{had}
use Rattle.gltf_inspect_files.proofs.buffer.had.Given as goal

abbrev pub invariant-loop-answer : goal.invariant-loop-answer
invariant-loop-answer l = bytes_of_each l.buffers.items ≡ had (answer_of_each l.yielded)
