use Rattle.std.proofs.Common.{◌≡◌, drop}
use Rattle.serde_json.specs.View.{items_view}
use Rattle.gltf_edit.specs.Embedded.{with_items}
use Rattle.gltf_detach.specs.Detached.{each_elsewhere, texts}
use Rattle.gltf_detach.proofs.documents.all_elsewhere.Given as goal

abbrev pub invariant-loop-i : goal.invariant-loop-i
invariant-loop-i l = record {
  seen : with_items (items_view l.all.items)
      (each_elsewhere l.owner (drop l.i (texts l.uris)) (items_view (drop l.i l.one-items)))
      ≡ each_elsewhere l.owner (texts l.uris) (items_view l.one-items);
}
