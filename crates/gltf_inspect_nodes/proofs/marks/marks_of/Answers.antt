use Rattle.std.proofs.Common.{[]}
use Rattle.gltf_inspect_nodes.proofs.Marking.{all_more}
use Rattle.gltf_inspect_nodes.proofs.marks.marks_of.Goals as goal

pub returns : goal.returns
returns g c =
    rw c.mark_all.ensures (all_more g.T.Names.named c.args.count [] c.in_ok-marks.marks.items
    c.args.values.now c.in_ok-marks.ensures)
