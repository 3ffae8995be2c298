-- Whether a name is in a list.
use Rattle.std.proofs.Common.{◌≡◌, ℕ, List, [], ◌∷◌, map, Bor, refl, ap₂, ◌||◌, bytes_eq}
use Rattle.std.proofs.lemmas.Cmp.{nat_list_eq_equiv}
use Rattle.std.specs.List.{list_any}
use Rattle.gltf_json_record.specs.Member.{is_one_of}

-- as `contains` finds it
pub found_or_not : (also : List (Bor (List ℕ))) (name : List ℕ)
    → list_any (λ k. bytes_eq k.now name) also ≡ is_one_of (map (λ k. k.now) also) name
found_or_not [] name = refl
found_or_not (k ∷ also) name =
    ap₂ (λ a b. a || b) (nat_list_eq_equiv.symm k.now name) (found_or_not also name)
