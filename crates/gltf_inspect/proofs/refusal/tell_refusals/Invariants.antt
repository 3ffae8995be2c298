use Rattle.std.proofs.Common.{◌≡◌, ◌++◌, drop, map}
use Rattle.gltf_inspect.specs.Refusals.{refusal}
use Rattle.gltf_inspect.proofs.refusal.tell_refusals.Given as goal

-- what was reported and what is left to report is the whole
abbrev pub invariant-loop-fault : goal.invariant-loop-fault
invariant-loop-fault l =
    l.findings ++ map refusal (drop l.fault-index l.faults)
    ≡ l.initial.findings ++ map refusal l.faults
