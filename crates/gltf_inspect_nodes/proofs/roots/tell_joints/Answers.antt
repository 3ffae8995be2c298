use Rattle.gltf_inspect_nodes.specs.Marks.{is_marked}
use Rattle.gltf_inspect_nodes.specs.Roots.{is_child_of}
use Rattle.gltf_inspect_nodes.proofs.Looped.{same_skins}
use Rattle.gltf_inspect_nodes.proofs.roots.tell_joints.Goals as goal

pub returns : goal.returns
returns c =
    let ns = c.args.nodes.now in
    let children = c.args.hierarchy.now.are_children.items in
    rw (
      ← same_skins (is_marked children) (is_child_of ns) c.args.ends.now c.args.skins.now
          c.requires.children.each,
      ← c.deref.ensures.value,
    )
    c.tell_skins.ensures
