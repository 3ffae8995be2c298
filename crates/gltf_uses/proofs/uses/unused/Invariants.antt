use Rattle.std.proofs.Common.{◌≡◌, ◌++◌, drop}
use Rattle.gltf_uses.specs.Usage.{unset, unset_from}
use Rattle.gltf_uses.proofs.uses.unused.Given as goal

-- those that were found, and those that are left, are all of them
abbrev pub invariant-loop-i : goal.invariant-loop-i
invariant-loop-i l =
    l.unused.items ++ unset_from l.i (drop l.i l.is_used-items) ≡ unset l.is_used-items
