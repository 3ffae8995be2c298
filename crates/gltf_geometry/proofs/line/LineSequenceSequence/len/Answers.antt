use Rattle.std.proofs.Common.{sym, ap, ◌∙◌, length}
use Rattle.std.proofs.lemmas.List.FromFn.{length-map-range_with_len}
use Rattle.gltf_geometry.specs.Vertices.{in_order}
use Rattle.gltf_geometry.specs.Topologies.{line, line_count}
use Rattle.gltf_geometry.proofs.line.LineSequenceSequence.len.Goals as goal

pub returns : goal.returns
returns c =
    c.count.ensures ∙ ap (line_count c.args.self.now.topology) c.len.ensures
    ∙ sym (length-map-range_with_len
    (line c.args.self.now.topology (in_order c.args.self.now.vertices)) 0
    (line_count c.args.self.now.topology (length (in_order c.args.self.now.vertices))))
