use Rattle.std.proofs.Common.{◌≡◌, drop}
use Rattle.serde_json.specs.View.{items_view}
use Rattle.gltf_edit.specs.Embedded.{with_items}
use Rattle.gltf_trim.specs.Trimmed.{each_short}
use Rattle.gltf_trim.proofs.documents.all_short.Given as goal

abbrev pub invariant-loop-i : goal.invariant-loop-i
invariant-loop-i l = record {
  seen : with_items (items_view l.all.items)
      (each_short (drop l.i l.lengths) (items_view (drop l.i l.one-items)))
      ≡ each_short l.lengths (items_view l.one-items);
}
