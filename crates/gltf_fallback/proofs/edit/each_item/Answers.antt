use Rattle.std.proofs.Common.{◌≡◌, map, take, ap, ◌∙◌, arith}
use Rattle.std.proofs.lemmas.Grind.{common_steps}
use Rattle.serde_json.specs.Data.{array}
use Rattle.serde_json.specs.View.{view, items_of}
use Rattle.serde_json.specs.declared.value.Value.{Value}
use Rattle.serde_json.proofs.Views.{view-Array}
use Rattle.gltf_fallback.proofs.One.{mapped_view}
use Rattle.gltf_fallback.proofs.edit.each_item.Goals as goal

pub returns : goal.returns
returns g c =
    let vs = c.deref-one-items.result.now in
    let same : vs ≡ c.in-Array.items.items = c.deref-one-items.ensures.value in
    let f = g.E.Edit.edited c.args.edit.now in
    let all : take c.loop-one.one-index vs ≡ vs = grind (arith, common_steps) in
    rw (c.in-Array.is, view-Array c.in-Array.items, ← same)
    (view-Array c.loop-one.all
    ∙ ap (λ ds. array (items_of ds)) (c.loop-one.invariant.seen
    ∙ ap (map (λ (v : Value). f (view v))) all)
    ∙ ap array (mapped_view f vs))
