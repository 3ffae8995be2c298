-- Cells become deltas one after the other, as a loop does it.
use Rattle.std.proofs.Common.{List, ℕ, ◌++◌, Option, option_map}

-- what was filled before, and what is still to be filled
abbrev pub with_front : List ℕ → Option (List ℕ × List ℕ) → Option (List ℕ × List ℕ)
with_front front read = option_map (λ x. (front ++ x.0, x.1)) read
