use Rattle.std.proofs.Common.{[]}
use Rattle.gltf_inspect_nodes.proofs.Marking.{more}
use Rattle.gltf_inspect_nodes.proofs.roots.marks_at.Goals as goal

pub returns : goal.returns
returns c =
    rw c.mark_numbers.ensures (more c.args.count [] c.in_ok-marks.marks.items c.args.numbers.now
    c.in_ok-marks.ensures)
