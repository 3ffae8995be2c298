use Rattle.std.proofs.Common.{ap, sym, ◌∙◌, ◌∷◌, [], ℕ, ◌+◌, ◌≡◌, length, arith}
use Rattle.std.proofs.lemmas.Grind.{common_steps}
use Rattle.serde_json.specs.Data.{item, no_items}
use Rattle.serde_json.specs.View.{items_view}
use Rattle.gltf_edit.specs.Embedded.{with_items, view_on}
use Rattle.gltf_edit.proofs.Pictures.{items_append, with_none}
use Rattle.gltf_edit.proofs.images.add_view.Goals as goal

pub returns-in_ok-push : goal.returns-in_ok-push
returns-in_ok-push c =
    let old = c.args.all.now.items in
    let long : c.len.result ≡ length old = grind (arith, common_steps) in
    rw c.in-Some.is
    (ap items_view c.in_ok-push.ensures.items
    ∙ items_append old (c.in_ok-view_on.field-0 ∷ [])
    ∙ ap (λ d. with_items (items_view old) (item d no_items)) c.in_ok-view_on.ensures
    ∙ ap (λ (n : ℕ). with_items (items_view old) (item (view_on (c.args.first + n)
    c.in-Some.picture.length) no_items)) long)

pub returns-in_default : goal.returns-in_default
returns-in_default c = rw c.in_default.is (sym (with_none (items_view c.args.all.now.items)))
