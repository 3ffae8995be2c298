use Rattle.gltf_inspect_nodes.specs.Marks.{is_marked}
use Rattle.gltf_inspect_nodes.specs.ViewTargets.{is_vertex_view}
use Rattle.gltf_inspect_nodes.proofs.Viewed.{same_views}
use Rattle.gltf_inspect_nodes.proofs.view.tell_targets.Goals as goal

pub returns : goal.returns
returns c =
    let r = c.args.root.now in
    let marks = c.in_ok-marks.marks.items in
    rw (
      ← same_views (is_marked marks) (is_vertex_view r) 0 r.buffer_views.items
          c.in_ok-marks.ensures.each,
      ← c.deref.ensures.value,
      ← c.as_slice.ensures.value,
    )
    c.tell_views.ensures
