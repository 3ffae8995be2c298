use Rattle.gltf_inspect_nodes.specs.Graphs.{is_child_in}
use Rattle.gltf_inspect_nodes.specs.Marks.{is_marked}
use Rattle.gltf_inspect_nodes.proofs.Marking.{same_scenes}
use Rattle.gltf_inspect_nodes.proofs.graph.tell_non_roots.Goals as goal

pub returns : goal.returns
returns c =
    let r = c.args.root.now in
    let children = c.args.hierarchy.now.are_children.items in
    rw (
      ← same_scenes (is_marked children) (is_child_in r) r.scenes.items c.requires.children.each,
      ← c.deref.ensures.value,
      ← c.as_slice.ensures.value,
    )
    c.tell_scenes.ensures
