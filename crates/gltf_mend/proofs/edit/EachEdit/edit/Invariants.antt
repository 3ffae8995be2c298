use Rattle.std.proofs.Common.{◌≡◌, map, take}
use Rattle.serde_json.specs.View.{view}
use Rattle.gltf_mend.proofs.edit.EachEdit.edit.Given as goal

abbrev pub invariant-loop-item : goal.invariant-loop-item
invariant-loop-item g l =
    map view l.all.items
    ≡ map (λ v. g.E.Edit.edited l.self.0 (view v)) (take l.item-index l.item-items)
