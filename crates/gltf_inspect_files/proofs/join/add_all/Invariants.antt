use Rattle.std.proofs.Common.{◌≡◌, ◌++◌, drop}
use Rattle.gltf_inspect_files.proofs.join.add_all.Given as goal

-- what was added and what is left to add is the whole
abbrev pub invariant-loop-finding : goal.invariant-loop-finding
invariant-loop-finding l =
    l.findings ++ drop l.finding-index l.found ≡ l.initial.findings ++ l.found
