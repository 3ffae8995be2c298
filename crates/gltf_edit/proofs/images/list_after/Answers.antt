use Rattle.std.proofs.Common.{ap, sym, ◌∙◌, Some, ◌≡◌, length, arith}
use Rattle.std.proofs.lemmas.Grind.{common_steps}
use Rattle.serde_json.specs.Data.{array}
use Rattle.serde_json.specs.View.{items_view}
use Rattle.serde_json.proofs.Views.{view-Array}
use Rattle.gltf_edit.specs.Embedded.{with_items}
use Rattle.gltf_edit.proofs.Pictures.{items_append, list_of_some}
use Rattle.gltf_edit.proofs.images.list_after.Goals as goal

pub returns : goal.returns
returns c =
    let more = c.args.more.items in
    let some : length more ≡ 0 → ⊥ =
    λ h. grind (arith, common_steps, c.is_empty.ensures, c.if-is_empty.false, h) in
    let all = ap items_view c.in_ok-append.ensures.items
    ∙ items_append c.in_ok-list.list.items more
    ∙ ap (λ ds. with_items ds (items_view more)) c.in_ok-list.ensures in
    ap (λ d. Some d) (view-Array c.append.new.self ∙ ap array all)
    ∙ sym (list_of_some c.args.name.now more _ some)
