use Rattle.std.proofs.Common.{◌≡◌, ℕ, ◌<◌, map, take}
use Rattle.std.specs.Prelude.{MatchOption}
use Rattle.serde_json.specs.Find.{get_item}
use Rattle.serde_json.specs.View.{view, items_view}
use Rattle.gltf_edit.specs.Bundled.{moved, IsPlaced}
use Rattle.gltf_edit.proofs.documents.moved_views.Given as goal

abbrev pub invariant-loop-i : goal.invariant-loop-i
invariant-loop-i l = record {
  seen : map view l.all.items ≡ map (λ v. moved l.spans (view v)) (take l.i l.one-items);
  lie : (j : ℕ) → j < l.i
      → MatchOption (get_item j (items_view l.one-items)) ⊥ (IsPlaced l.spans);
}
