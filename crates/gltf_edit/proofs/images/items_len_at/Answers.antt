use Rattle.std.proofs.Common.{ap, sym, ◌∙◌, arith, ◌≡◌, Some, length, Option, subst}
use Rattle.std.proofs.lemmas.Grind.{common_steps}
use Rattle.std.specs.Prelude.{option_and_then, unwrap_or}
use Rattle.serde_json.specs.Data.{Data, array, no_items}
use Rattle.serde_json.specs.Events.{items_len}
use Rattle.serde_json.specs.Find.{as_array}
use Rattle.serde_json.specs.View.{view, items_view}
use Rattle.serde_json.proofs.Views.{view-Array}
use Rattle.gltf_edit.proofs.Pictures.{items_length}
use Rattle.gltf_edit.proofs.images.items_len_at.Goals as goal

pub returns-in-Some-Array-clause-is : goal.returns-in-Some-Array-clause-is
returns-in-Some-Array-clause-is c =
    let list = c.in-Some-Array.list in
    let long : c.len.result ≡ length list.items = grind (arith, common_steps) in
    let here : ◌≡◌ {A = Data} (view c.in-Some-Array.field-0.now) (array (items_view list.items)) =
    ap view c.in-Some-Array.field-0-is ∙ view-Array list in
    subst (λ (o : Option Data).
    c.len.result ≡ items_len (unwrap_or (option_and_then as_array o) no_items))
    (ap (λ d. Some d) (sym here) ∙ c.in-Some-Array.ensures)
    (long ∙ sym (items_length list.items))
