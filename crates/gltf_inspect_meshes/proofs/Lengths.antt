-- The length of a JSON list.
use Rattle.std.proofs.Common.{◌≡◌, ℕ, List, [], ◌∷◌, length, refl, ap, sym, Some}
use Rattle.std.proofs.Common.{nat_eq}
use Rattle.serde_json.specs.Data.{Data}
use Rattle.serde_json.specs.Find.{as_array}
use Rattle.gltf_inspect_meshes.specs.Weights.{is_list_of}
use Rattle.std.specs.Prelude.{suc}
use Rattle.serde_json.specs.declared.value.Value.{Value}
use Rattle.serde_json.specs.Events.{items_len}
use Rattle.serde_json.specs.View.{items_view}

pub items_len-view : (vs : List Value) → items_len (items_view vs) ≡ length vs
items_len-view [] = refl
items_len-view (v ∷ vs) = ap suc (items_len-view vs)

len_eq : (count : ℕ) (vs : List Value) → nat_eq (length vs) count
    ≡ nat_eq (items_len (items_view vs)) count
len_eq count vs = ap (λ n. nat_eq n count) (sym (items_len-view vs))

-- a list has the length that its values have
pub of_list : (count : ℕ) (d : Data) (vs : List Value) → as_array d ≡ Some (items_view vs)
    → nat_eq (length vs) count ≡ is_list_of count d
of_list count d vs e = rw e (len_eq count vs)
