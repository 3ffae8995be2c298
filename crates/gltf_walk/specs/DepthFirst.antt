-- A walk over nodes and what is below them, depth first, parents before children (glTF 2.0, section
-- 3.5.1, "Nodes and Hierarchy": a node names its children; no node is to be its own ancestor, or to
-- have two parents, but a file can say so).
use Rattle.std.specs.Prelude.{ℕ, ◌+◌, Bool, true, false, List, [], ◌∷◌, ◌++◌, map, Contains, Option}
use Rattle.std.specs.Prelude.{Some}

-- a step of a walk: a node, the parent that it was reached from, how many ancestors it was reached
-- through, and whether an earlier step has it
pub record Visit : Type 0 where
  pub node : ℕ
  pub parent : Option ℕ
  pub depth : ℕ
  pub again : Bool

-- the nodes of some steps
abbrev pub nodes_of : List Visit → List ℕ
nodes_of = map (λ v. v.node)

-- the walk over siblings in order, where the nodes in `before` were reached before
pub data DepthFirst (children : ℕ → List ℕ)
    : List ℕ → Option ℕ → ℕ → List ℕ → List Visit → Type 0 where
  -- without siblings there are no steps
  none : {before : List ℕ} {parent : Option ℕ} {depth : ℕ}
      → DepthFirst children before parent depth [] []
  -- a node that was reached before is given again, and what is below it is not
  again : {before : List ℕ} {parent : Option ℕ} {depth node : ℕ} {others : List ℕ}
      {after : List Visit}
      → Contains before node
      → DepthFirst children (before ++ node ∷ []) parent depth others after
      → DepthFirst children before parent depth (node ∷ others)
      (record { node = node; parent = parent; depth = depth; again = true } ∷ after)
  -- another one is given, then what is below it, and then what follows it
  first : {before : List ℕ} {parent : Option ℕ} {depth node : ℕ} {others : List ℕ}
      {below after : List Visit}
      → ¬ Contains before node
      → DepthFirst children (before ++ node ∷ []) (Some node) (depth + 1) (children node) below
      → DepthFirst children ((before ++ node ∷ []) ++ nodes_of below) parent depth others after
      → DepthFirst children before parent depth (node ∷ others)
      (record { node = node; parent = parent; depth = depth; again = false } ∷ below ++ after)
