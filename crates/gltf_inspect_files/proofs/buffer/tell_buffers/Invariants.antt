use Rattle.std.proofs.Common.{◌≡◌, ◌++◌, drop, take}
use Rattle.std.specs.List.{AllByRecursion}
use Rattle.gltf_shared.specs.Shown.{answer_of_each}
use Rattle.gltf_inspect_files.specs.Buffers.{buffers_findings, SaysSomething}
use Rattle.gltf_inspect_files.proofs.buffer.tell_buffers.Given as goal

-- what was found and what is left to be found is the whole
abbrev pub invariant-loop-i : goal.invariant-loop-i
invariant-loop-i l = record {
  found : l.findings ++ buffers_findings l.i (answer_of_each (drop l.i l.answers))
      ≡ l.initial.findings ++ buffers_findings 0 (answer_of_each l.answers);
  told : AllByRecursion SaysSomething (answer_of_each (take l.i l.answers));
}
