-- Which nodes are children, and of which node (glTF 2.0, section 3.5.2).
use Rattle.std.specs.Prelude.{◌≡◌, ℕ, true, false, length, List, ◌∷◌, ◌++◌}
use Rattle.gltf_json_scene.specs.declared.scene.Node.{Node}
use Rattle.gltf_inspect_nodes.specs.declared.hierarchy.Hierarchy.{Hierarchy}
use Rattle.gltf_inspect_nodes.specs.Named.{is_named, children_of, all_named}
use Rattle.gltf_inspect_nodes.specs.Marks.{AreMarks}
use Rattle.gltf_inspect_nodes.specs.Roots.{parents_of}

-- no number below count stands there twice
abbrev pub AreNamedOnce : ℕ → List ℕ → Type 0
AreNamedOnce count ks =
    (before after : List ℕ) (k : ℕ) → ks ≡ before ++ k ∷ after → is_named count before k ≡ false

-- it is the hierarchy of these nodes
pub record IsHierarchyOf (ns : List Node) (h : Hierarchy) : Type 0 where
  pub parents : h.parents.items ≡ parents_of ns
  pub children : AreMarks (length ns) (all_named children_of ns) h.are_children.items
  pub once : h.are_named_once ≡ true → AreNamedOnce (length ns) (all_named children_of ns)
