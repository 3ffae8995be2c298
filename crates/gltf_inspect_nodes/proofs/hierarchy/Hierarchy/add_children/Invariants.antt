use Rattle.std.proofs.Common.{◌≡◌, ◌&&◌, drop}
use Rattle.gltf_inspect_nodes.specs.Marks.{marked, are_new}
use Rattle.gltf_inspect_nodes.specs.Roots.{with_parent}
use Rattle.gltf_inspect_nodes.proofs.hierarchy.Hierarchy.add_children.Given as goal

-- what is left to be added, after what was so far, is the whole
abbrev pub invariant-loop-child : goal.invariant-loop-child
invariant-loop-child l = record {
  parents : with_parent l.self.parents.items l.parent (drop l.child-index l.children)
      ≡ with_parent l.initial.self.parents.items l.parent l.children;
  children : marked l.self.are_children.items (drop l.child-index l.children)
      ≡ marked l.initial.self.are_children.items l.children;
  once : (l.self.are_named_once
      && are_new l.self.are_children.items (drop l.child-index l.children))
      ≡ (l.initial.self.are_named_once && are_new l.initial.self.are_children.items l.children);
}
