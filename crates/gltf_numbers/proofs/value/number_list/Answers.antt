use Rattle.std.proofs.Common.{◌≡◌, sym, ap, ◌∙◌, List, map}
use Rattle.serde_json.specs.View.{view}
use Rattle.serde_json.specs.declared.value.Value.{Value}
use Rattle.gltf_numbers.specs.Numbers.{numbers_in, any_number_of}
use Rattle.gltf_numbers.proofs.Values.{of_any}
use Rattle.gltf_numbers.proofs.value.number_list.Goals as goal

pub returns-in-Some : goal.returns-in-Some
returns-in-Some c =
    let same : numbers_in (map view c.as_slice.result.now) ≡ any_number_of (view c.args.value.now) =
    ap (λ (vs : List Value). numbers_in (map view vs)) c.as_slice.ensures.value
    ∙ sym (of_any (view c.args.value.now) c.in-Some.values.now.items (sym c.in-Some.ensures)) in
    rw (sym same) c.list_of_all.ensures
