use Rattle.std.proofs.Common.{Some, refl, ap, ◌∙◌}
use Rattle.gltf_geometry.specs.Vertices.{in_order}
use Rattle.gltf_geometry.proofs.Loops.{loop_closes}
use Rattle.gltf_geometry.proofs.line.lines.Goals.{in-Lines, in-LineLoop, in-LineStrip}
use Rattle.gltf_geometry.proofs.line.lines.Goals as goal

pub returns : goal.returns
returns c =
    elim c.match-mode.branch [
      | in-Lines w ↦ rw w.in-Lines.is (ap Some (c.new.ensures ∙ rw w.topology-is refl))
      | in-LineStrip w ↦ rw w.in-LineStrip.is (ap Some (c.new.ensures ∙ rw w.topology-is refl))
      | in-LineLoop w ↦ rw w.in-LineLoop.is (ap Some (c.new.ensures
          ∙ rw w.topology-is (loop_closes (in_order c.args.vertices))))
    ]
