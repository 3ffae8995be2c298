-- How deep nodes are.
use Rattle.std.specs.Prelude.{◌≡◌, ◌≢◌, ℕ, zero, suc, Bool, ◌||◌, not, nat_eq, get_or, length, List}
use Rattle.std.specs.Prelude.{Option, Some, None}
use Rattle.std.specs.declared.alloc.Global.{Global}
use Rattle.std.specs.declared.vec.Vec.{Vec}
use Rattle.gltf_inspect_nodes.specs.Roots.{led}

-- so many steps to the parent lead from v to a node that has none, each of them to another node
unfoldable pub IsDepth : List ℕ → ℕ → ℕ → Type 0
IsDepth parents zero v = led parents v ≡ v
IsDepth parents (suc d) v = (led parents v ≢ v) × IsDepth parents d (led parents v)

-- no number of steps leads there: v leads to a loop
abbrev pub HasNoDepth : List ℕ → ℕ → Type 0
HasNoDepth parents v = (d : ℕ) → IsDepth parents d v → ⊥

-- those that are not 0 are the depths of their nodes
abbrev pub AreKnown : List ℕ → List ℕ → Type 0
AreKnown parents depths = (k : ℕ) → get_or depths k 0 ≢ 0 → IsDepth parents (get_or depths k 0) k

-- all are
pub record AreDepths (parents depths : List ℕ) : Type 0 where
  pub long : length depths ≡ length parents
  pub each : (k : ℕ) → IsDepth parents (get_or depths k 0) k

-- none where a node has no depth
abbrev pub MatchDepths : List ℕ → Option (Vec ℕ Global) → Type 0
MatchDepths parents None = (k : ℕ) × HasNoDepth parents k
MatchDepths parents (Some depths) = AreDepths parents depths.items

-- v has no parent, or its depth is not 0
abbrev pub is_known : List ℕ → List ℕ → ℕ → Bool
is_known parents depths v = nat_eq (led parents v) v || not (nat_eq (get_or depths v 0) 0)
