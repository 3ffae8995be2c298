use Rattle.std.proofs.Common.{ap, sym, ◌∙◌, ◌∷◌, [], take, arith, ◌+◌, ℕ}
use Rattle.serde_json.specs.Events.{items_len}
use Rattle.serde_json.specs.View.{items_view}
use Rattle.gltf_edit.specs.Embedded.{with_items, views_of}
use Rattle.gltf_edit.proofs.Pictures.{views_last, taken_more, items_length}
use Rattle.gltf_edit.proofs.images.new_views.Goals as goal

pub loop-picture-preserved : goal.loop-picture-preserved
loop-picture-preserved c =
    let ps = c.args.pictures.now in
    let b = c.args.first in
    let i = c.loop-picture.picture-index in
    let p = c.picture-item.result in
    let old = c.loop-picture.all.items in
    c.in_ok-add_view.ensures
    ∙ ap (λ (n : ℕ). with_items (items_view old) (views_of (b + n) (p ∷ [])))
    (sym (items_length old))
    ∙ ap (λ ds. with_items ds (views_of (b + items_len ds) (p ∷ []))) c.loop-picture.invariant
    ∙ sym (views_last b (take i ps) p)
    ∙ ap (views_of b) (sym (taken_more ps i p (omega arith) c.picture-item.is))
