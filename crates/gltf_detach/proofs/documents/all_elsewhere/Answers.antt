use Rattle.std.proofs.Common.{ap, sym, ◌∙◌, [], ◌≡◌, drop, arith, subst, Option, List, ℕ}
use Rattle.std.proofs.lemmas.Grind.{common_steps}
use Rattle.serde_json.specs.Data.{array}
use Rattle.serde_json.specs.View.{view, items_view}
use Rattle.serde_json.proofs.Views.{view-Array}
use Rattle.gltf_edit.specs.Embedded.{with_items}
use Rattle.gltf_detach.specs.Detached.{texts, each_elsewhere, elsewhere, first}
use Rattle.gltf_detach.proofs.Lists.{go_on, with_none}
use Rattle.gltf_detach.proofs.documents.all_elsewhere.Goals as goal

pub loop-i-preserved : goal.loop-i-preserved
loop-i-preserved c =
    let o = c.args.owner in
    let us = texts c.args.uris.now in
    let vs = c.deref-one-items.result.now in
    let far = c.loop-i in
    let seen : view c.in_ok-elsewhere.field-0 ≡ elsewhere o (first (drop far.i us))
    (view c.one-item.result) =
    c.in_ok-elsewhere.ensures
    ∙ ap (λ (u : Option (List ℕ)). elsewhere o u (view c.one-item.result)) c.uri_at.ensures in
    record {
      seen =
          rw c.in_ok-push.ensures.items
          (go_on o us far.i c.one-item.result c.in_ok-elsewhere.field-0 vs far.all.items
          (each_elsewhere o us (items_view vs)) (omega arith) c.one-item.is seen
          far.invariant.seen);
    }

pub returns : goal.returns
returns c =
    let o = c.args.owner in
    let us = texts c.args.uris.now in
    let vs = c.deref-one-items.result.now in
    let far = c.loop-i in
    let same : vs ≡ c.in-Array.elements.items = c.deref-one-items.ensures.value in
    let none : drop far.i vs ≡ [] = grind (arith, common_steps) in
    let whole : with_items (items_view far.all.items)
    (each_elsewhere o (drop far.i us) (items_view []))
    ≡ each_elsewhere o us (items_view vs) =
    subst (λ ws. with_items (items_view far.all.items)
    (each_elsewhere o (drop far.i us) (items_view ws))
    ≡ each_elsewhere o us (items_view vs)) none far.invariant.seen in
    rw (c.in-Array.is, view-Array c.in-Array.elements, ← same)
    (view-Array far.all ∙ ap array (sym (with_none (items_view far.all.items)) ∙ whole))
