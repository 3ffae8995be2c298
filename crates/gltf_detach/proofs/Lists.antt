-- Elements with their URIs, one by one.
use Rattle.std.proofs.Common.{◌≡◌, ℕ, zero, suc, ◌+◌, ◌<◌, List, [], ◌∷◌, ◌++◌, length, drop}
use Rattle.std.proofs.Common.{refl, sym, ap, ◌∙◌, Option, None, get_or, add-one}
use Rattle.std.proofs.Common.{slice_get, option_map, arith, string_bytes, String, Global}
use Rattle.std.proofs.lemmas.List.{drop_more}
use Rattle.serde_json.specs.Data.{item, no_items, Items}
use Rattle.serde_json.specs.View.{view, items_view}
use Rattle.serde_json.specs.declared.value.Value.{Value}
use Rattle.gltf_edit.specs.Embedded.{with_items}
use Rattle.gltf_detach.specs.Detached.{texts, elsewhere, each_elsewhere, first, rest}
use Rattle.gltf_detach.specs.declared.owner.Owner.{Owner}

abbrev Text : Type 0
Text = String Global

items_append : (vs ws : List Value)
    → items_view (vs ++ ws) ≡ with_items (items_view vs) (items_view ws)
items_append [] ws = refl
items_append (v ∷ vs) ws = ap (item (view v)) (items_append vs ws)

pub with_none : (ds : Items) → with_items ds no_items ≡ ds
with_none no_items = refl
with_none (item d ds) = ap (item d) (with_none ds)

with_more : (ds es fs : Items) → with_items (with_items ds es) fs ≡ with_items ds (with_items es fs)
with_more no_items es fs = refl
with_more (item d ds) es fs = ap (item d) (with_more ds es fs)

pub first_within : (us : List (Option Text)) (i : ℕ) (w : Option Text) → i < length us
    → w ≡ get_or us i w → option_map string_bytes w ≡ first (drop i (texts us))
first_within [] i w h is = absurd (omega arith)
first_within (u ∷ us) zero w h is = ap (option_map string_bytes) is
first_within (u ∷ us) (suc i) w h is = first_within us i w (omega arith) is

pub is_past : (us : List (Option Text)) (i : ℕ) → slice_get us i ≡ None
    → None ≡ first (drop i (texts us))
is_past [] zero is = refl
is_past [] (suc i) is = refl
is_past (u ∷ us) zero is = cc
is_past (u ∷ us) (suc i) is = is_past us i is

rest_at : (us : List (Option (List ℕ))) (i : ℕ) → rest (drop i us) ≡ drop (suc i) us
rest_at [] zero = refl
rest_at [] (suc i) = refl
rest_at (u ∷ us) zero = refl
rest_at (u ∷ us) (suc i) = rest_at us i

step_of : (o : Owner) (us : List (Option (List ℕ))) (i : ℕ) (v : Value) (vs : List Value)
    → i < length vs → v ≡ get_or vs i v
    → each_elsewhere o (drop i us) (items_view (drop i vs))
    ≡ item (elsewhere o (first (drop i us)) (view v))
    (each_elsewhere o (drop (i + 1) us) (items_view (drop (i + 1) vs)))
step_of o us i v vs h is =
    ap (λ ds. each_elsewhere o (drop i us) (items_view ds))
    (drop_more vs i v h ∙ ap (λ (w : Value). w ∷ drop (i + 1) vs) (sym is))
    ∙ ap (λ ws. item (elsewhere o (first (drop i us)) (view v))
    (each_elsewhere o ws (items_view (drop (i + 1) vs))))
    (rest_at us i ∙ ap (λ (j : ℕ). drop j us) (sym (add-one i)))

-- with one more element, those that are left are one fewer
pub go_on : (o : Owner) (us : List (Option (List ℕ))) (i : ℕ) (v w : Value) (vs done : List Value)
    (whole : Items) → i < length vs → v ≡ get_or vs i v
    → view w ≡ elsewhere o (first (drop i us)) (view v)
    → with_items (items_view done) (each_elsewhere o (drop i us) (items_view (drop i vs))) ≡ whole
    → with_items (items_view (done ++ w ∷ []))
    (each_elsewhere o (drop (i + 1) us) (items_view (drop (i + 1) vs)))
    ≡ whole
go_on o us i v w vs done whole h is seen far =
    let left = each_elsewhere o (drop (i + 1) us) (items_view (drop (i + 1) vs)) in
    ap (λ ds. with_items ds left) (items_append done (w ∷ []))
    ∙ with_more (items_view done) (item (view w) no_items) left
    ∙ ap (λ d. with_items (items_view done) (item d left)) seen
    ∙ ap (with_items (items_view done)) (sym (step_of o us i v vs h is))
    ∙ far
