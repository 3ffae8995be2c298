-- What `exactly` gives of a list of JSON: the numbers of its values where there are so many, else
-- none. The values of the list are those that it was made of, by induction on them.
use Rattle.std.proofs.Common.{◌≡◌, ◌==◌, ℕ, List, [], ◌∷◌, length, map, refl, ap, sym, ◌∙◌}
use Rattle.std.proofs.Common.{Some, None, Option, option_map, option_and_then, if◌then◌else◌, Float}
use Rattle.std.proofs.Common.{⊎_elim}
use Rattle.std.proofs.lemmas.Bool.{eq-eqb}
use Rattle.std.proofs.lemmas.Bool.Decides.{eqb_tells}
use Rattle.std.proofs.lemmas.List.{length-map}
use Rattle.serde_json.specs.Data.{Data, Items}
use Rattle.serde_json.specs.Find.{as_array}
use Rattle.serde_json.specs.View.{view, items_of, items_view}
use Rattle.serde_json.specs.declared.value.Value.{Value}
use Rattle.gltf_numbers.specs.Numbers.{values_of, numbers_in, exactly, any_number_of}

values_of-items : (ds : List Data) → values_of (items_of ds) ≡ ds
values_of-items [] = refl
values_of-items (d ∷ ds) = ap (λ es. d ∷ es) (values_of-items ds)

-- the numbers of n values, none of another list
of_so_many : ℕ → List Data → Option (List Float)
of_so_many n ds = if length ds == n then numbers_in ds else None

of_items : (n : ℕ) (d : Data) (vs : List Value) → as_array d ≡ Some (items_view vs)
    → exactly n d ≡ of_so_many n (map view vs)
unfolding of_so_many
of_items n d vs e =
    ap (λ (o : Option Items). option_and_then (of_so_many n) (option_map values_of o)) e
    ∙ ap (of_so_many n) (values_of-items (map view vs))

pub of_n : (n : ℕ) (d : Data) (vs : List Value) → as_array d ≡ Some (items_view vs)
    → length vs ≡ n → exactly n d ≡ numbers_in (map view vs)
unfolding of_so_many
of_n n d vs e l =
    of_items n d vs e
    ∙ ap (λ b. if b then numbers_in (map view vs) else None)
    (eq-eqb (length (map view vs)) n (length-map vs view ∙ l))

pub of_others : (n : ℕ) (d : Data) (vs : List Value) → as_array d ≡ Some (items_view vs)
    → (length vs ≡ n → ⊥) → exactly n d ≡ None
unfolding of_so_many
of_others n d vs e l = of_items n d vs e ∙ ⊎_elim
    (λ same. absurd (l (sym (length-map vs view) ∙ same.1)))
    (λ other. ap (λ b. if b then numbers_in (map view vs) else None) other.0)
    (eqb_tells (length (map view vs)) n)

-- of any number
pub of_any : (d : Data) (vs : List Value) → as_array d ≡ Some (items_view vs)
    → any_number_of d ≡ numbers_in (map view vs)
of_any d vs e =
    ap (λ (o : Option Items). option_and_then numbers_in (option_map values_of o)) e
    ∙ ap numbers_in (values_of-items (map view vs))
