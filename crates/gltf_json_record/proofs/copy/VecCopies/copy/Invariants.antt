use Rattle.std.proofs.Common.{◌≡◌, map, take}
use Rattle.gltf_json_record.proofs.copy.VecCopies.copy.Given as goal

abbrev pub invariant-loop-item : goal.invariant-loop-item
invariant-loop-item g l =
    map g.T.FromValue.kind.content l.list.items
    ≡ map g.T.FromValue.kind.content (take l.item-index l.item-items)
