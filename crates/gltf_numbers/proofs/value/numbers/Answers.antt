use Rattle.std.proofs.Common.{sym, ap, ◌∙◌, List, map, length}
use Rattle.serde_json.specs.View.{view}
use Rattle.serde_json.specs.declared.value.Value.{Value}
use Rattle.gltf_numbers.specs.Numbers.{numbers_in}
use Rattle.gltf_numbers.proofs.Values.{of_n, of_others}
use Rattle.gltf_numbers.proofs.value.numbers.Goals as goal

pub returns-then-values : goal.returns-then-values
returns-then-values g c =
    let same = c.as_slice-values.ensures.value in
    c.all_numbers.ensures
    ∙ ap (λ (vs : List Value). numbers_in (map view vs)) same
    ∙ sym (of_n g.row.N (view c.args.value.now) c.in_ok-as_array.field-0.now.items
    (sym c.in_ok-as_array.ensures)
    (ap (length {A = Value}) (sym same) ∙ c.if-values.true))

pub returns-else-values : goal.returns-else-values
returns-else-values g c =
    let same = c.as_slice-values.ensures.value in
    sym (of_others g.row.N (view c.args.value.now) c.in_ok-as_array.field-0.now.items
    (sym c.in_ok-as_array.ensures)
    (λ l. c.if-values.false (ap (length {A = Value}) same ∙ l)))
