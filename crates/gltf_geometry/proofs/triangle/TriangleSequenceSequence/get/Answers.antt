use Rattle.std.proofs.Common.{◌<◌, ℕ, List, length, ◌∙◌}
use Rattle.gltf_geometry.specs.Vertices.{in_order}
use Rattle.gltf_geometry.specs.Topologies.{triangle, triangle_count}
use Rattle.gltf_geometry.proofs.Ranges.{slice_get-each, below_each}
use Rattle.gltf_geometry.proofs.Positions.{three_at}
use Rattle.gltf_geometry.proofs.triangle.TriangleSequenceSequence.get.Goals as goal

pub corners-first-requires : goal.corners-first-requires
corners-first-requires c =
    rw c.len.ensures (below_each
    (triangle c.args.self.now.topology (in_order c.args.self.now.vertices))
    (triangle_count c.args.self.now.topology (length (in_order c.args.self.now.vertices)))
    c.args.index c.requires)

pub returns : goal.returns
returns c =
    let v : List ℕ = in_order c.args.self.now.vertices in
    let count : ℕ = triangle_count c.args.self.now.topology (length v) in
    let below : c.args.index < count =
    below_each (triangle c.args.self.now.topology v) count c.args.index c.requires in
    slice_get-each (triangle c.args.self.now.topology v) count c.args.index below
    ∙ three_at v _ _ c.at.result c.at-2.result c.at-3.result c.corners-first.ensures.corners
    c.at.ensures c.at-2.ensures c.at-3.ensures
