use Rattle.std.proofs.Common.{◌≡◌, map, take, ap, ◌∙◌, arith}
use Rattle.std.proofs.Common.{below_more}
use Rattle.std.proofs.lemmas.Grind.{common_steps}
use Rattle.serde_json.specs.Data.{array}
use Rattle.serde_json.specs.View.{view, items_of}
use Rattle.serde_json.specs.declared.value.Value.{Value}
use Rattle.serde_json.proofs.Views.{view-Array}
use Rattle.gltf_edit.specs.Bundled.{moved, IsPlaced}
use Rattle.gltf_edit.proofs.Views.{mapped_view, all_placed, seen_more, at_item}
use Rattle.gltf_edit.proofs.documents.moved_views.Goals as goal

pub returns-in-None-clause-refused : goal.returns-in-None-clause-refused
returns-in-None-clause-refused c =
    let vs = c.deref-one-items.result.now in
    let one = c.one-item.result in
    let same : vs ≡ c.in-Array.list.items = c.deref-one-items.ensures.value in
    let stray : IsPlaced c.args.spans.now (view one) → ⊥ = rw c.in-None.is at c.in_ok-one.ensures in
    rw (c.in-Array.is, view-Array c.in-Array.list, ← same)
    record {
      before = c.loop-i.invariant.lie;
      stray =
          at_item (λ v. IsPlaced c.args.spans.now v → ⊥) vs c.loop-i.i one (omega arith)
          c.one-item.is stray;
    }

pub loop-i-preserved : goal.loop-i-preserved
loop-i-preserved c =
    let vs = c.deref-one-items.result.now in
    let one = c.one-item.result in
    let made = rw c.in-Some.is at c.in_ok-one.ensures in
    record {
      seen =
          rw c.in_ok-push-in-Some.ensures.items
          (seen_more (moved c.args.spans.now) vs c.loop-i.all.items c.loop-i.i one c.in-Some.one
          (omega arith) c.one-item.is c.loop-i.invariant.seen made.0);
      lie =
          below_more _ _ c.loop-i.invariant.lie
          (at_item (IsPlaced c.args.spans.now) vs c.loop-i.i one (omega arith) c.one-item.is
          made.1);
    }

pub returns-clause-value : goal.returns-clause-value
returns-clause-value c =
    let vs = c.deref-one-items.result.now in
    let same : vs ≡ c.in-Array.list.items = c.deref-one-items.ensures.value in
    let f = moved c.args.spans.now in
    let all : take c.loop-i.i vs ≡ vs = grind (arith, common_steps) in
    rw (c.in-Array.is, view-Array c.in-Array.list, ← same)
    (view-Array c.loop-i.all
    ∙ ap (λ ds. array (items_of ds)) (c.loop-i.invariant.seen
    ∙ ap (map (λ (v : Value). f (view v))) all)
    ∙ ap array (mapped_view f vs))

pub returns-clause-placed : goal.returns-clause-placed
returns-clause-placed c =
    let vs = c.deref-one-items.result.now in
    let same : vs ≡ c.in-Array.list.items = c.deref-one-items.ensures.value in
    rw (c.in-Array.is, view-Array c.in-Array.list, ← same)
    (all_placed c.args.spans.now vs (λ j lt. c.loop-i.invariant.lie j (omega arith)))
