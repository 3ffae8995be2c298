use Rattle.std.proofs.Common.{◌≡◌, map, take, ap, ◌∙◌, arith}
use Rattle.std.proofs.lemmas.Grind.{common_steps}
use Rattle.serde_json.specs.Data.{array}
use Rattle.serde_json.specs.View.{view, items_of}
use Rattle.serde_json.specs.declared.value.Value.{Value}
use Rattle.serde_json.proofs.Views.{view-Array}
use Rattle.gltf_mend.proofs.Lists.{mapped_view}
use Rattle.gltf_mend.proofs.edit.EachEdit.edit.Goals as goal

pub returns : goal.returns
returns g c =
    let vs = c.deref-item-items.result.now in
    let same : vs ≡ c.in-Array.list.items = c.deref-item-items.ensures.value in
    let f = g.E.Edit.edited c.args.self.now.0 in
    let all : take c.loop-item.item-index vs ≡ vs = grind (arith, common_steps) in
    rw (c.in-Array.is, view-Array c.in-Array.list, ← same)
    (view-Array c.loop-item.all
    ∙ ap (λ ds. array (items_of ds))
    (c.loop-item.invariant ∙ ap (map (λ (v : Value). f (view v))) all)
    ∙ ap array (mapped_view f vs))
