use Rattle.std.proofs.Common.{sym, ap, ◌∙◌, length}
use Rattle.std.proofs.lemmas.List.FromFn.{length-map-range_with_len}
use Rattle.gltf_geometry.specs.Vertices.{in_order}
use Rattle.gltf_geometry.specs.Topologies.{triangle, triangle_count}
use Rattle.gltf_geometry.proofs.triangle.TriangleSequenceSequence.len.Goals as goal

pub returns : goal.returns
returns c =
    c.count.ensures ∙ ap (triangle_count c.args.self.now.topology) c.len.ensures
    ∙ sym (length-map-range_with_len
    (triangle c.args.self.now.topology (in_order c.args.self.now.vertices)) 0
    (triangle_count c.args.self.now.topology (length (in_order c.args.self.now.vertices))))
