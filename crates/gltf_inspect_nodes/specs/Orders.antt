-- Tables of parents in order.
use Rattle.std.specs.Prelude.{ℕ, ◌≤◌, List}
use Rattle.gltf_inspect_nodes.specs.Roots.{led, times_65536}

-- each node leads to itself or to one before it
abbrev pub ParentsComeFirst : List ℕ → Type 0
ParentsComeFirst table = (k : ℕ) → led table k ≤ k

-- each node leads to itself or to one behind it
abbrev pub ParentsComeLast : List ℕ → Type 0
ParentsComeLast table = (k : ℕ) → k ≤ led table k

-- where each leads to by 2 ^ 64 steps by a table of one step
unfoldable pub ends_by : List ℕ → List ℕ
ends_by table = times_65536 (times_65536 (times_65536 (times_65536 table)))
