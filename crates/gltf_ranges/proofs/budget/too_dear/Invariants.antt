use Rattle.std.proofs.Common.{◌≡◌, ◌++◌, drop}
use Rattle.gltf_ranges.specs.Budget.{prices, too_dear}
use Rattle.gltf_ranges.proofs.budget.too_dear.Given as goal

-- those so far, and then those of what is left
abbrev pub invariant-loop-i : goal.invariant-loop-i
invariant-loop-i l =
    l.dear.items ++ too_dear l.left
    (prices l.root l.firsts l.i (drop l.i l.root.accessors.items))
    ≡ too_dear l.budget (prices l.root l.firsts 0 l.root.accessors.items)
