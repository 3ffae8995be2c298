use Rattle.std.proofs.Common.{◌<◌, ℕ, List, length, ap, ◌∙◌}
use Rattle.gltf_geometry.specs.Vertices.{in_order}
use Rattle.gltf_geometry.specs.Topologies.{line, line_count, ends}
use Rattle.gltf_geometry.proofs.Ranges.{slice_get-each, below_each}
use Rattle.gltf_geometry.proofs.Positions.{two_at}
use Rattle.gltf_geometry.proofs.line.LineSequenceSequence.get.Goals as goal

pub ends-first-requires : goal.ends-first-requires
ends-first-requires c =
    rw c.len.ensures (below_each
    (line c.args.self.now.topology (in_order c.args.self.now.vertices))
    (line_count c.args.self.now.topology (length (in_order c.args.self.now.vertices)))
    c.args.index c.requires)

pub returns : goal.returns
returns c =
    let v : List ℕ = in_order c.args.self.now.vertices in
    let count : ℕ = line_count c.args.self.now.topology (length v) in
    let below : c.args.index < count =
    below_each (line c.args.self.now.topology v) count c.args.index c.requires in
    slice_get-each (line c.args.self.now.topology v) count c.args.index below
    ∙ two_at v _ _ c.at.result c.at-2.result (c.ends-first.ensures.ends
    ∙ ap (λ (n : ℕ). ends c.args.self.now.topology n c.args.index) c.len.ensures)
    c.at.ensures c.at-2.ensures
