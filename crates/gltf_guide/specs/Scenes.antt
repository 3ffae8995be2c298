-- How many nodes a scene shows (glTF 2.0, section 3.5.1, "Nodes and Hierarchy").
use Rattle.std.specs.Prelude.{◌≡◌, ◌↔◌, ℕ, List, length, Contains}
use Rattle.gltf_json.specs.declared.root.Root.{Root}
use Rattle.gltf_walk.specs.Reached.{IsBelow, NoneTwice}
use Rattle.gltf_walk.specs.Walks.{children_of}

-- so many nodes are among these or below one of them, each counted once
pub record IsNodeCount (r : Root) (roots : List ℕ) (count : ℕ) : Type 0 where
  pub nodes : List ℕ
  pub shown : (n : ℕ) → Contains nodes n ↔ IsBelow (children_of r) roots n
  pub once : NoneTwice nodes
  pub counted : count ≡ length nodes
