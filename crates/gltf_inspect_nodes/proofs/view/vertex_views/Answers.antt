use Rattle.std.proofs.Common.{[]}
use Rattle.gltf_inspect_nodes.specs.Marks.{AreMarks}
use Rattle.gltf_inspect_nodes.specs.ViewTargets.{view_count, vertex_views}
use Rattle.gltf_inspect_nodes.proofs.Marking.{more}
use Rattle.gltf_inspect_nodes.proofs.Viewed.{all_meshes}
use Rattle.gltf_inspect_nodes.proofs.view.vertex_views.Goals as goal

pub returns : goal.returns
returns c =
    let r = c.args.root.now in
    let none : AreMarks (view_count r) [] c.in_ok-marks.marks.items =
    rw (← c.as_slice-views.ensures.value) c.in_ok-marks.ensures in
    rw (
      c.mark_meshes.ensures,
      c.as_slice-accessors.ensures.value,
      c.as_slice-meshes.ensures.value,
      all_meshes r.accessors.items c.in_ok-marks.marks.items r.meshes.items,
    )
    (more (view_count r) [] c.in_ok-marks.marks.items (vertex_views r) none)
