use Rattle.std.proofs.Common.{take}
use Rattle.serde_json.specs.View.{items_view}
use Rattle.gltf_json_record.specs.Items.{AllRead}
use Rattle.gltf_json_record.proofs.lists.VecFromValue.from_value.Given as goal

abbrev pub invariant-loop-i : goal.invariant-loop-i
invariant-loop-i g l = AllRead g.T.FromValue.kind.is
    (items_view (take l.i l.item-items)) l.list.items
