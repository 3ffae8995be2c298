use Rattle.std.proofs.Common.{[], length}
use Rattle.gltf_inspect_nodes.proofs.Marking.{cleared_again, same_unique}
use Rattle.gltf_inspect_nodes.proofs.repeats.tell_repeats.Goals as goal

pub returns-clause-told : goal.returns-clause-told
returns-clause-told g c =
    rw (← same_unique g.E.Entry.key g.E.Entry.told (length c.args.marks.now.items) []
    c.args.marks.now.items 0 c.args.entries.now c.requires) c.in_ok-tell_marked.ensures.told

pub returns-clause-marks : goal.returns-clause-marks
returns-clause-marks g c =
    rw (c.clear.ensures, c.in_ok-tell_marked.ensures.marks)
    (cleared_again g.E.Entry.key (length c.args.marks.now.items) c.args.marks.now.items
    c.args.entries.now c.requires)
