use Rattle.std.proofs.Common.{◌≡◌, ◌+◌, ◌≤◌, drop}
use Rattle.serde_json.specs.View.{items_view}
use Rattle.gltf_edit.specs.Embedded.{with_items, pictured}
use Rattle.gltf_edit.proofs.images.pictured.Given as goal

abbrev pub invariant-loop-i : goal.invariant-loop-i
invariant-loop-i l = record {
  few : l.next ≤ l.first + l.i;
  seen : with_items (items_view l.all.items)
      (pictured l.next (drop l.i l.pictures) (items_view (drop l.i l.image-items)))
      ≡ pictured l.first l.pictures (items_view l.image-items);
}
