use Rattle.std.proofs.Common.{◌≡◌, ℕ, ◌≤◌, ◌<◌, get_or}
use Rattle.gltf_trim.proofs.passed.behind_zeros.Given as goal

-- only zeros so far
abbrev pub invariant-loop-at : goal.invariant-loop-at
invariant-loop-at l = (p : ℕ) → l.place ≤ p → p < l.at → get_or l.bytes p 0 ≡ 0
