-- Which nodes a walk gives.
use Rattle.std.specs.Prelude.{ℕ, ◌↔◌, if◌then◌else◌, List, [], ◌∷◌, Contains, ⊤}
use Rattle.gltf_walk.specs.DepthFirst.{Visit}

-- n is one of the roots, or a node below one
pub data IsBelow (children : ℕ → List ℕ) (roots : List ℕ) : ℕ → Type 0 where
  root : {n : ℕ} → Contains roots n → IsBelow children roots n
  child : {m n : ℕ} → IsBelow children roots m → Contains (children m) n → IsBelow children roots n

-- the nodes of the steps that are not given again
abbrev pub firsts : List Visit → List ℕ
firsts [] = []
firsts (v ∷ vs) = if v.again then firsts vs else v.node ∷ firsts vs

-- no number is in a list twice
abbrev pub NoneTwice : List ℕ → Type 0
NoneTwice [] = ⊤
NoneTwice (n ∷ ns) = (¬ Contains ns n) × NoneTwice ns

-- each root and each node below one is given first in one step, and no other node is
pub record GivesEachOnce (children : ℕ → List ℕ) (roots : List ℕ) (steps : List Visit)
    : Type 0 where
  pub reached : (n : ℕ) → Contains (firsts steps) n ↔ IsBelow children roots n
  pub once : NoneTwice (firsts steps)
