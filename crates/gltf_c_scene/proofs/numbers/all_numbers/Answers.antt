use Rattle.std.proofs.Common.{sym, ap, ◌∙◌, List, map, Some, is_some}
use Rattle.serde_json.specs.View.{view}
use Rattle.serde_json.specs.declared.value.Value.{Value}
use Rattle.gltf_numbers.specs.Numbers.{numbers_in}
use Rattle.gltf_c_scene.proofs.Listed.{of_list, all_there, not_there}
use Rattle.gltf_c_scene.proofs.numbers.all_numbers.Goals as goal

pub returns-then-are_numbers : goal.returns-then-are_numbers
returns-then-are_numbers c =
    let same = c.as_slice-values.ensures.value in
    let vs = c.in_ok-as_array.field-0.now.items in
    ap (λ (ws : List Value). numbers_in (map view ws)) same
    ∙ all_there (numbers_in (map view vs))
    (ap (λ (ws : List Value). is_some (numbers_in (map view ws))) (sym same)
    ∙ sym c.are_numbers.ensures ∙ c.if-are_numbers.true)
    ∙ ap Some (sym (of_list c.args.value.now vs (sym c.in_ok-as_array.ensures)))

pub returns-else-are_numbers : goal.returns-else-are_numbers
returns-else-are_numbers c =
    let same = c.as_slice-values.ensures.value in
    let vs = c.in_ok-as_array.field-0.now.items in
    of_list c.args.value.now vs (sym c.in_ok-as_array.ensures)
    ∙ not_there (numbers_in (map view vs))
    (ap (λ (ws : List Value). is_some (numbers_in (map view ws))) (sym same)
    ∙ sym c.are_numbers.ensures ∙ c.if-are_numbers.false)
