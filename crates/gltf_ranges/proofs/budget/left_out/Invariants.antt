use Rattle.std.proofs.Common.{◌≡◌, ◌++◌, get_or, false, drop, map}
use Rattle.gltf_ranges.proofs.budget.left_out.Given as goal

-- the marks so far, and then those of what is left
abbrev pub invariant-loop-first : goal.invariant-loop-first
invariant-loop-first l =
    l.out.items ++ map (λ first. get_or l.dear.items first false) (drop l.first-index l.firsts)
    ≡ map (λ first. get_or l.dear.items first false) l.firsts
