use Rattle.std.proofs.Common.{◌∙◌, ap, subst, sym, [], length}
use Rattle.gltf_inspect_nodes.specs.Marks.{AreMarks}
use Rattle.gltf_inspect_nodes.specs.Named.{children_of, all_named}
use Rattle.gltf_inspect_nodes.specs.Roots.{with_parents}
use Rattle.gltf_inspect_nodes.proofs.Marking.{all_more}
use Rattle.gltf_inspect_nodes.proofs.Once.{all-new, named-once}
use Rattle.gltf_inspect_nodes.proofs.hierarchy.Hierarchy.of.Goals as goal

pub returns : goal.returns
returns c =
    let ns = c.args.nodes.now in
    let marks = c.in_ok-are_children.are_children.items in
    let none : AreMarks (length ns) [] marks = c.in_ok-are_children.ensures in
    record {
      parents =
          c.add_all.ensures.parents ∙ ap (λ ps. with_parents ps 0 ns) c.in_ok-parents.ensures;
      children =
          subst (λ ms. AreMarks (length ns) (all_named children_of ns) ms)
          (sym c.add_all.ensures.children) (all_more children_of (length ns) [] marks ns none);
      once = λ h.
          named-once (length ns) marks (all_named children_of ns) none
          (sym (all-new children_of marks ns) ∙ sym c.add_all.ensures.once ∙ h);
    }
