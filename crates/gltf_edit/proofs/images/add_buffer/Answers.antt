use Rattle.std.proofs.Common.{ap, sym, ◌∙◌, ◌∷◌, []}
use Rattle.serde_json.specs.Data.{item, no_items}
use Rattle.serde_json.specs.View.{items_view}
use Rattle.gltf_edit.specs.Embedded.{with_items}
use Rattle.gltf_edit.proofs.Pictures.{items_append, with_none}
use Rattle.gltf_edit.proofs.images.add_buffer.Goals as goal

pub returns-in_ok-push : goal.returns-in_ok-push
returns-in_ok-push c =
    let old = c.args.all.now.items in
    rw c.in-Some.is
    (ap items_view c.in_ok-push.ensures.items
    ∙ items_append old (c.in_ok-sized.field-0 ∷ [])
    ∙ ap (λ d. with_items (items_view old) (item d no_items)) c.in_ok-sized.ensures)

pub returns-in_default : goal.returns-in_default
returns-in_default c = rw c.in_default.is (sym (with_none (items_view c.args.all.now.items)))
