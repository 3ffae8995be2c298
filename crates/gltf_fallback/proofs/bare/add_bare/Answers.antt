use Rattle.std.proofs.Common.{rules, ◌≡◌, true, false, ap, sym, ◌∙◌, ◌∷◌, []}
use Rattle.serde_json.specs.Data.{item, no_items}
use Rattle.serde_json.specs.View.{view, items_view}
use Rattle.gltf_edit.specs.Embedded.{with_items}
use Rattle.gltf_fallback.proofs.One.{items_append, with_none}
use Rattle.gltf_fallback.specs.Bare.{is_bare}
use Rattle.gltf_fallback.proofs.bare.add_bare.Goals as goal

pub returns-in_ok-push : goal.returns-in_ok-push
returns-in_ok-push c =
    let old = c.args.all.now.items in
    let bare : is_bare (view c.args.buffer.now) ≡ true =
    sym c.is_bare.ensures ∙ c.if-is_bare.true in
    let copy : view c.in_ok-clone.field-0 ≡ view c.args.buffer.now = search rules in
    rw bare
    (ap items_view c.in_ok-push.ensures.items ∙ items_append old (c.in_ok-clone.field-0 ∷ [])
    ∙ ap (λ d. with_items (items_view old) (item d no_items)) copy)

pub returns-else-is_bare : goal.returns-else-is_bare
returns-else-is_bare c =
    let bare : is_bare (view c.args.buffer.now) ≡ false =
    sym c.is_bare.ensures ∙ c.if-is_bare.false in
    rw bare (sym (with_none (items_view c.args.all.now.items)))
