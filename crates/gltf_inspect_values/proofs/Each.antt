-- Checks of what values show are checks of the values.
use Rattle.std.proofs.Common.{◌≡◌, ◌<◌, ◌≤◌, ℕ, ◌+◌, List, [], ◌∷◌, ◌++◌, map, length, drop, take}
use Rattle.std.proofs.Common.{get_or}
use Rattle.std.proofs.Common.{refl, ap, sym, ◌∙◌, Some, Option}
use Rattle.std.proofs.lemmas.List.{at_drop_more, take-map, take_all}
use Rattle.serde_json.specs.Data.{Data, Items}
use Rattle.serde_json.specs.View.{view, items_of, items_view}
use Rattle.serde_json.specs.declared.value.Value.{Value}
use Rattle.gltf_json_record.specs.Place.{Place, numbered}
use Rattle.gltf_findings.specs.declared.code.Code.{Code}
use Rattle.gltf_findings.specs.Checks.{Checks, At, ◌&◌, told_after}
use Rattle.gltf_numbers.specs.Numbers.{values_of}
use Rattle.gltf_inspect_values.specs.Bounds.{each_checks, values_in}

pub each_of_map : {A B : Type 0} (g : A → B) (f : ℕ → B → Checks) (i : ℕ) (xs : List A)
    → each_checks (λ c x. f c (g x)) i xs ≡ each_checks f i (map g xs)
each_of_map g f i [] = refl
each_of_map g f i (x ∷ xs) =
    ap (λ rest. At (numbered i) (f i (g x)) & rest) (each_of_map g f (i + 1) xs)

values_of-items : (ds : List Data) → values_of (items_of ds) ≡ ds
values_of-items [] = refl
values_of-items (d ∷ ds) = ap (λ es. d ∷ es) (values_of-items ds)

-- the values of a list are those that it was made of
of_list : (o : Option Items) (vs : List Value) → o ≡ Some (items_view vs)
    → map view vs ≡ values_in o
of_list o vs e = sym (ap values_in e ∙ values_of-items (map view vs))

-- where there are few, these are the first
pub of_few : (vs : List Value) (n : ℕ) → length vs ≤ n → vs ≡ take n vs
of_few vs n few = sym (take_all n vs few)

-- the first values of a list are those of what it was made of
pub front_of_list : (o : Option Items) (vs : List Value) (n : ℕ) → o ≡ Some (items_view vs)
    → map view (take n vs) ≡ take n (values_in o)
front_of_list o vs n e = sym (take-map view n vs) ∙ ap (take n) (of_list o vs e)

-- a walk that has passed element i too has what is left of it after that
pub next_of_each : {T : Type 0} (f : ℕ → T → Checks) (xs : List T) (i : ℕ) (x : T)
    (told next all : List (List Place × Code)) (path : List Place) → i < length xs
    → x ≡ get_or xs i x → next ≡ told_after told (path ++ numbered i ∷ []) (f i x)
    → told_after told path (each_checks f i (drop i xs)) ≡ all
    → told_after next path (each_checks f (i + 1) (drop (i + 1) xs)) ≡ all
next_of_each f xs i x told next all path within is passed before =
    ap (λ now. told_after now path (each_checks f (i + 1) (drop (i + 1) xs))) passed
    ∙ ap (λ y. told_after told path (each_checks f i (y ∷ drop (i + 1) xs))) is
    ∙ sym (at_drop_more (λ ys. told_after told path (each_checks f i ys)) xs i x within)
    ∙ before
