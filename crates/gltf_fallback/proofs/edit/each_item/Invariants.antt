use Rattle.std.proofs.Common.{◌≡◌, map, take}
use Rattle.serde_json.specs.View.{view}
use Rattle.gltf_fallback.proofs.edit.each_item.Given as goal

abbrev pub invariant-loop-one : goal.invariant-loop-one
invariant-loop-one g l = record {
  seen : map view l.all.items
      ≡ map (λ v. g.E.Edit.edited l.edit (view v)) (take l.one-index l.one-items);
}
