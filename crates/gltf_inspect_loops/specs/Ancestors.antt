-- The ancestors of nodes (glTF 2.0, section 3.5.2). A node that several have as their child has the
-- last of these as its parent.
use Rattle.std.specs.Prelude.{◌≡◌, ℕ, zero, suc, ◌<◌, Bool, true, false, nat_eq, length}
use Rattle.std.specs.Prelude.{Option, Some, None, List, [], ◌∷◌}
use Rattle.std.specs.List.{list_any}
use Rattle.gltf_json_scene.specs.declared.scene.Node.{Node}
use Rattle.gltf_json_scene.specs.declared.skin.Skin.{Skin}
use Rattle.gltf_inspect_nodes.specs.Named.{children_of, joints_of}

abbrev pub has_child : Node → ℕ → Bool
has_child n c = list_any (nat_eq c) (children_of n)

-- the node at an index
abbrev pub node_at : List Node → ℕ → Option Node
node_at [] k = None
node_at (n ∷ ns) zero = Some n
node_at (n ∷ ns) (suc k) = node_at ns k

-- node p has node c as a child, and no node behind it has
pub record IsParent (ns : List Node) (p c : ℕ) : Type 0 where
  pub is_node : c < length ns
  pub node : Node
  pub there : node_at ns p ≡ Some node
  pub has : has_child node c ≡ true
  pub last : (q : ℕ) (m : Node) → p < q → node_at ns q ≡ Some m → has_child m c ≡ false

-- so many steps, each from a node to its parent, lead from k to s
abbrev pub IsAncestor : List Node → ℕ → ℕ → ℕ → Type 0
IsAncestor ns zero s k = k ≡ s
IsAncestor ns (suc n) s k = (p : ℕ) × IsParent ns p k × IsAncestor ns n s p

-- one of these nodes, and another one: nothing is above both of them, or one and above the other
pub record AreApart (ns : List Node) (joints : List ℕ) : Type 0 where
  pub one : ℕ
  pub other : ℕ
  pub one_there : list_any (nat_eq one) joints ≡ true
  pub other_there : list_any (nat_eq other) joints ≡ true
  pub one_is_node : one < length ns
  pub other_is_node : other < length ns
  pub none : (above m n : ℕ) → IsAncestor ns m above one → IsAncestor ns n above other → ⊥

-- a skin names a node as its skeleton, and has a joint that is a node, and neither this one nor
-- below it
pub record HasJointElsewhere (ns : List Node) (skin : Skin) : Type 0 where
  pub skeleton : ℕ
  pub is_skeleton : skin.skeleton ≡ Some skeleton
  pub skeleton_is_node : skeleton < length ns
  pub joint : ℕ
  pub joint_there : list_any (nat_eq joint) (joints_of skin) ≡ true
  pub joint_is_node : joint < length ns
  pub elsewhere : (n : ℕ) → IsAncestor ns n skeleton joint → ⊥

-- no node is among its own ancestors
abbrev pub HasNoLoop : List Node → Type 0
HasNoLoop ns = (i n : ℕ) → IsAncestor ns (suc n) i i → ⊥

-- the skin at an index
abbrev pub skin_at : List Skin → ℕ → Option Skin
skin_at [] k = None
skin_at (s ∷ ss) zero = Some s
skin_at (s ∷ ss) (suc k) = skin_at ss k
