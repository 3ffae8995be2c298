use Rattle.std.proofs.Common.{ap, sym, ◌∙◌, [], ◌≡◌, drop, arith, subst}
use Rattle.std.proofs.lemmas.Grind.{common_steps}
use Rattle.std.proofs.Common.{Option, ℕ}
use Rattle.serde_json.specs.Data.{array}
use Rattle.serde_json.specs.View.{view, items_view}
use Rattle.serde_json.proofs.Views.{view-Array}
use Rattle.gltf_edit.specs.Embedded.{with_items}
use Rattle.gltf_trim.specs.Trimmed.{each_short, short, first}
use Rattle.gltf_trim.proofs.Elements.{go_on, with_none}
use Rattle.gltf_trim.proofs.documents.all_short.Goals as goal

pub loop-i-preserved : goal.loop-i-preserved
loop-i-preserved c =
    let ls = c.args.lengths.now in
    let vs = c.deref-one-items.result.now in
    let far = c.loop-i in
    let seen : view c.in_ok-short.field-0 ≡ short (first (drop far.i ls)) (view c.one-item.result) =
    c.in_ok-short.ensures
    ∙ ap (λ (o : Option ℕ). short o (view c.one-item.result)) c.length_at.ensures in
    record {
      seen =
          rw c.in_ok-push.ensures.items
          (go_on ls far.i c.one-item.result c.in_ok-short.field-0 vs far.all.items
          (each_short ls (items_view vs)) (omega arith) c.one-item.is seen
          far.invariant.seen);
    }

pub returns : goal.returns
returns c =
    let ls = c.args.lengths.now in
    let vs = c.deref-one-items.result.now in
    let far = c.loop-i in
    let same : vs ≡ c.in-Array.elements.items = c.deref-one-items.ensures.value in
    let none : drop far.i vs ≡ [] = grind (arith, common_steps) in
    let whole : with_items (items_view far.all.items)
    (each_short (drop far.i ls) (items_view []))
    ≡ each_short ls (items_view vs) =
    subst (λ ws. with_items (items_view far.all.items)
    (each_short (drop far.i ls) (items_view ws))
    ≡ each_short ls (items_view vs)) none far.invariant.seen in
    rw (c.in-Array.is, view-Array c.in-Array.elements, ← same)
    (view-Array far.all ∙ ap array (sym (with_none (items_view far.all.items)) ∙ whole))
