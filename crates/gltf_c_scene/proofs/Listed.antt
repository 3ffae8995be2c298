-- The numbers of a list of JSON are those of the values that it was made of, by induction on them.
use Rattle.std.proofs.Common.{◌≡◌, ℕ, List, [], ◌∷◌, map, refl, ap, sym, ◌∙◌, true, false}
use Rattle.std.proofs.Common.{Some, None, Option, option_map, option_and_then, unwrap_or, is_some}
use Rattle.std.proofs.Common.{Float, slice_get, slice_set, length, zero, suc, ◌<◌, ◌≤◌, ◌+◌, ◌++◌}
use Rattle.std.proofs.Common.{take, drop, arith, slice_index_or}
use Rattle.std.proofs.Common.{min, ⊎_elim}
use Rattle.std.proofs.lemmas.Bool.{cases_lt}
use Rattle.std.proofs.lemmas.List.{length-map, take_all}
use Rattle.std.proofs.Math.ListN.{drop_of_length-le}
use Rattle.std.proofs.lemmas.Bool.{false≢true, true≢false}
use Rattle.serde_json.specs.Data.{Data, Items}
use Rattle.serde_json.specs.Find.{as_array}
use Rattle.serde_json.specs.View.{view, items_of, items_view}
use Rattle.serde_json.specs.declared.value.Value.{Value}
use Rattle.gltf_numbers.specs.Numbers.{values_of, numbers_in, number_of}
use Rattle.gltf_c_scene.specs.Values.{numbers_of_value}

values_of-items : (ds : List Data) → values_of (items_of ds) ≡ ds
values_of-items [] = refl
values_of-items (d ∷ ds) = ap (λ es. d ∷ es) (values_of-items ds)

pub of_list : (v : Value) (vs : List Value) → as_array (view v) ≡ Some (items_view vs)
    → numbers_of_value v ≡ unwrap_or (numbers_in (map view vs)) []
of_list v vs e =
    ap (λ (o : Option Items). unwrap_or (option_and_then (λ es. numbers_in (values_of es)) o) []) e
    ∙ ap (λ ds. unwrap_or (numbers_in ds) []) (values_of-items (map view vs))

pub of_other : (v : Value) → as_array (view v) ≡ None → numbers_of_value v ≡ []
of_other v e =
    ap (λ (o : Option Items). unwrap_or (option_and_then (λ es. numbers_in (values_of es)) o) []) e

pub all_there : (o : Option (List Float)) → is_some o ≡ true → o ≡ Some (unwrap_or o [])
all_there None e = absurd (false≢true e)
all_there (Some xs) e = refl

pub not_there : (o : Option (List Float)) → is_some o ≡ false → unwrap_or o [] ≡ []
not_there None e = refl
not_there (Some xs) e = absurd (true≢false e)

-- there are as many numbers as values
pub one_more : (o : Option Float) (r : Option (List Float)) (n : ℕ) (xs : List Float)
    → ((ys : List Float) → r ≡ Some ys → n ≡ length ys)
    → option_and_then (λ x. option_map (λ zs. x ∷ zs) r) o ≡ Some xs → suc n ≡ length xs
one_more None r n xs far e = absurd (false≢true (ap is_some e))
one_more (Some x) None n xs far e = absurd (false≢true (ap is_some e))
one_more (Some x) (Some ys) n xs far e =
    ap suc (far ys refl) ∙ ap (λ o. length (unwrap_or o [])) e

pub as_many : (ds : List Data) (xs : List Float) → numbers_in ds ≡ Some xs
    → length ds ≡ length xs
as_many [] xs e = ap (λ o. length (unwrap_or o [])) e
as_many (d ∷ ds) xs e = one_more (number_of d) (numbers_in ds) (length ds) xs (as_many ds) e

pub count_of_values : (vs : List Value) (xs : List Float) → numbers_in (map view vs) ≡ Some xs
    → length vs ≡ length xs
count_of_values vs xs e = sym (length-map vs view) ∙ as_many (map view vs) xs e

-- each number is that of the value at its place
place_more : (o : Option Float) (r : Option (List Float)) (i : ℕ) (xs : List Float)
    (at : Option Float)
    → ((ys : List Float) → r ≡ Some ys → slice_get ys i ≡ at)
    → option_and_then (λ x. option_map (λ zs. x ∷ zs) r) o ≡ Some xs
    → slice_get xs (suc i) ≡ at
place_more None r i xs at far e = absurd (false≢true (ap is_some e))
place_more (Some x) None i xs at far e = absurd (false≢true (ap is_some e))
place_more (Some x) (Some ys) i xs at far e =
    sym (ap (λ o. slice_get (unwrap_or o []) (suc i)) e) ∙ far ys refl

place_first : (o : Option Float) (r : Option (List Float)) (xs : List Float)
    → option_and_then (λ x. option_map (λ zs. x ∷ zs) r) o ≡ Some xs → slice_get xs 0 ≡ o
place_first None r xs e = absurd (false≢true (ap is_some e))
place_first (Some x) None xs e = absurd (false≢true (ap is_some e))
place_first (Some x) (Some ys) xs e = sym (ap (λ o. slice_get (unwrap_or o []) 0) e)

pub place_of : (vs : List Value) (i : ℕ) (v : Value) (xs : List Float) → i < length vs
    → v ≡ slice_index_or vs i v → numbers_in (map view vs) ≡ Some xs
    → slice_get xs i ≡ number_of (view v)
place_of [] i v xs below at e = absurd (omega (arith, below))
place_of (w ∷ vs) zero v xs below at e =
    place_first (number_of (view w)) (numbers_in (map view vs)) xs e
    ∙ ap (λ u. number_of (view u)) (sym at)
place_of (w ∷ vs) (suc i) v xs below at e =
    place_more (number_of (view w)) (numbers_in (map view vs)) i xs (number_of (view v))
    (λ ys f. place_of vs i v ys (omega (arith, below)) at f) e

-- a place below the length has something
pub is_there : {X : Type 0} (xs : List X) (i : ℕ) → i < length xs → slice_get xs i ≡ None → ⊥
is_there [] i below e = absurd (omega (arith, below))
is_there (x ∷ xs) zero below e = true≢false (ap is_some e)
is_there (x ∷ xs) (suc i) below e = is_there xs i (omega (arith, below)) e

-- one place more is written
pub one_written : {X : Type 0} (xs old : List X) (i : ℕ) (x : X) → slice_get xs i ≡ Some x
    → i < length old
    → slice_set (take i xs ++ drop i old) i x ≡ take (suc i) xs ++ drop (suc i) old
one_written [] old i x at below = absurd (false≢true (ap is_some at))
one_written (y ∷ ys) [] i x at below = absurd (omega (arith, below))
one_written (y ∷ ys) (o ∷ os) zero x at below = ap (λ (z : Option _). unwrap_or z y ∷ os) (sym at)
one_written (y ∷ ys) (o ∷ os) (suc i) x at below =
    ap (λ zs. y ∷ zs) (one_written ys os i x at (omega (arith, below)))

the_next : (i : ℕ) → suc i ≡ i + 1
the_next i = omega arith

pub next_written : {X : Type 0} (xs old out : List X) (i : ℕ) (x : X)
    → out ≡ take i xs ++ drop i old → slice_get xs i ≡ Some x → i < length old
    → slice_set out i x ≡ take (i + 1) xs ++ drop (i + 1) old
next_written xs old out i x far at below =
    ap (λ ys. slice_set ys i x) far ∙ one_written xs old i x at below
    ∙ ap (λ k. take k xs ++ drop k old) (the_next i)

-- what is written in the end: as much as there is room for
pub all_written : {X : Type 0} (xs old : List X) (n : ℕ) → n ≡ min (length xs) (length old)
    → take n xs ++ drop n old ≡ take (length old) xs ++ drop (length xs) old
all_written xs old n e = ⊎_elim
    (λ (few : length xs < length old). let same : n ≡ length xs = omega (arith, e, few) in
    rw same (ap (λ ys. ys ++ drop (length xs) old)
    (take_all (length xs) xs (omega arith)
    ∙ sym (take_all (length old) xs (omega (arith, few))))))
    (λ (many : length old ≤ length xs). let same : n ≡ length old = omega (arith, e, many) in
    rw same (ap (λ ys. take (length old) xs ++ ys)
    (drop_of_length-le old (omega arith) ∙ sym (drop_of_length-le old many))))
    (cases_lt (length xs) (length old))
