use Rattle.std.proofs.Common.{◌≡◌, ◌&&◌, drop}
use Rattle.gltf_inspect_nodes.specs.Marks.{marked_all, are_all_new}
use Rattle.gltf_inspect_nodes.specs.Named.{children_of}
use Rattle.gltf_inspect_nodes.specs.Roots.{with_parents}
use Rattle.gltf_inspect_nodes.proofs.hierarchy.Hierarchy.add_all.Given as goal

-- what is left to be added, after what was so far, is the whole
abbrev pub invariant-loop-i : goal.invariant-loop-i
invariant-loop-i l = record {
  parents : with_parents l.self.parents.items l.i (drop l.i l.nodes)
      ≡ with_parents l.initial.self.parents.items 0 l.nodes;
  children : marked_all children_of l.self.are_children.items (drop l.i l.nodes)
      ≡ marked_all children_of l.initial.self.are_children.items l.nodes;
  once : (l.self.are_named_once
      && are_all_new children_of l.self.are_children.items (drop l.i l.nodes))
      ≡ (l.initial.self.are_named_once
      && are_all_new children_of l.initial.self.are_children.items l.nodes);
}
