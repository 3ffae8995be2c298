use Rattle.gltf_inspect_nodes.specs.Marks.{is_marked}
use Rattle.gltf_inspect_nodes.specs.Roots.{is_end_in, is_child_of}
use Rattle.gltf_inspect_nodes.proofs.Looped.{same_loops}
use Rattle.gltf_inspect_nodes.proofs.roots.tell_loops.Goals as goal

pub returns : goal.returns
returns c =
    let ns = c.args.nodes.now in
    let ends = c.in_ok-are_ends.are_ends.items in
    let children = c.args.hierarchy.now.are_children.items in
    rw (
      ← same_loops (is_marked ends) (is_end_in ns c.args.ends.now) (is_marked children)
          (is_child_of ns) 0 ns c.in_ok-are_ends.ensures.each c.requires.children.each,
      ← c.deref.ensures.value,
      ← c.deref-2.ensures.value,
    )
    c.tell_marked.ensures
