-- The packets of a list of JSON are the values that it was made of, by induction on them.
use Rattle.std.proofs.Common.{◌≡◌, List, [], ◌∷◌, map, refl, ap, ◌∙◌}
use Rattle.std.proofs.Common.{Some, Option, option_map, option_and_then, unwrap_or}
use Rattle.serde_json.specs.Data.{Data, Items}
use Rattle.serde_json.specs.Find.{as_array}
use Rattle.serde_json.specs.View.{view, items_of, items_view}
use Rattle.serde_json.specs.declared.value.Value.{Value}
use Rattle.gltf_numbers.specs.Numbers.{values_of}

values_of-items : (ds : List Data) → values_of (items_of ds) ≡ ds
values_of-items [] = refl
values_of-items (d ∷ ds) = ap (λ es. d ∷ es) (values_of-items ds)

pub of_array : (m : Option Data) (d : Data) (vs : List Value) → m ≡ Some d
    → as_array d ≡ Some (items_view vs)
    → unwrap_or (option_and_then (λ packets. option_map values_of (as_array packets)) m) []
    ≡ map view vs
of_array m d vs e f =
    ap (λ (o : Option Data). unwrap_or
    (option_and_then (λ packets. option_map values_of (as_array packets)) o) []) e
    ∙ ap (λ (o : Option Items). unwrap_or (option_map values_of o) []) f
    ∙ values_of-items (map view vs)
