-- Steps to the parent, and jumps over many of them, where parents are in order.
use Rattle.std.specs.Prelude.{◌≡◌, ◌≢◌, ℕ, ◌-◌, ◌<◌, ◌≤◌, Bool, true, false, nat_eq, nat_lt}
use Rattle.std.specs.Prelude.{if◌then◌else◌, get_or, List}
use Rattle.gltf_inspect_nodes.specs.Roots.{led}
use Rattle.gltf_inspect_trees.specs.Skeletons.{leads}

-- steps to the parent lead down by rank: where parents come first by the numbers, else by these
-- counted from the last one that there could be
abbrev pub rank : Bool → ℕ → ℕ
rank true k = k
rank false k = 18446744073709551615 - k

-- each node that has a parent has a greater rank
abbrev pub IsInOrder : Bool → List ℕ → Type 0
IsInOrder first parents =
    (v : ℕ) → led parents v ≢ v → rank first (led parents v) < rank first v

-- s is v, or above it
abbrev pub is_above : List ℕ → ℕ → ℕ → Bool
is_above parents s v = leads parents 18446744073709551616 s v

-- a jump leads from a node to one above it; and what is no further up than that one is above the
-- node exactly where it is above that one
pub record AreJumps (first : Bool) (parents jumps : List ℕ) : Type 0 where
  pub in_order : IsInOrder first parents
  pub step : (s v : ℕ) → v ≢ s → is_above parents s v ≡ is_above parents s (led parents v)
  pub stays : (v : ℕ) → led parents v ≡ v → led jumps v ≡ v
  pub up : (v : ℕ) → led parents v ≢ v → rank first (led jumps v) < rank first v
  pub same : (s v : ℕ) → rank first s ≤ rank first (led jumps v)
      → is_above parents s v ≡ is_above parents s (led jumps v)

-- two jumps from the parent where they lead equally deep, else one step
abbrev pub jump_by : List ℕ → List ℕ → ℕ → ℕ → ℕ
jump_by jumps depths parent far =
    if nat_eq (get_or depths parent 0 - get_or depths far 0)
    (get_or depths far 0 - get_or depths (led jumps far) 0) then led jumps far else parent

abbrev pub jump_of : List ℕ → List ℕ → ℕ → ℕ
jump_of jumps depths parent = jump_by jumps depths parent (led jumps parent)

-- the jump where it leads no further up than so, else the step
abbrev pub next_up : Bool → List ℕ → List ℕ → ℕ → ℕ → ℕ
next_up first parents jumps most v =
    if nat_lt (rank first (led jumps v)) most then led parents v else led jumps v
