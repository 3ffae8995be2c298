-- Elements one by one.
use Rattle.std.proofs.Common.{◌≡◌, ℕ, zero, suc, ◌+◌, ◌<◌, List, [], ◌∷◌, ◌++◌, length, drop, take}
use Rattle.std.proofs.Common.{refl, sym, ap, ◌∙◌, Option, get_or, add-one, arith}
use Rattle.std.proofs.lemmas.List.{drop_more}
use Rattle.serde_json.specs.Data.{item, no_items, Items}
use Rattle.serde_json.specs.Events.{items_len}
use Rattle.serde_json.specs.View.{view, items_view}
use Rattle.serde_json.specs.declared.value.Value.{Value}
use Rattle.gltf_edit.specs.Embedded.{with_items}
use Rattle.gltf_trim.specs.Lengths.{take_items, drop_items}
use Rattle.gltf_trim.specs.Trimmed.{short, each_short, first, rest}

pub taken : (n : ℕ) (vs : List Value) → items_view (take n vs) ≡ take_items n (items_view vs)
taken zero vs = refl
taken (suc n) [] = refl
taken (suc n) (v ∷ vs) = ap (item (view v)) (taken n vs)

pub dropped : (n : ℕ) (vs : List Value) → items_view (drop n vs) ≡ drop_items n (items_view vs)
dropped zero vs = refl
dropped (suc n) [] = refl
dropped (suc n) (v ∷ vs) = dropped n vs

pub counted : (vs : List Value) → items_len (items_view vs) ≡ length vs
counted [] = refl
counted (v ∷ vs) = let later = counted vs in omega (arith, later)

items_append : (vs ws : List Value)
    → items_view (vs ++ ws) ≡ with_items (items_view vs) (items_view ws)
items_append [] ws = refl
items_append (v ∷ vs) ws = ap (item (view v)) (items_append vs ws)

pub with_none : (ds : Items) → with_items ds no_items ≡ ds
with_none no_items = refl
with_none (item d ds) = ap (item d) (with_none ds)

with_more : (ds es fs : Items) → with_items (with_items ds es) fs ≡ with_items ds (with_items es fs)
with_more no_items es fs = refl
with_more (item d ds) es fs = ap (item d) (with_more ds es fs)

rest_at : (ls : List (Option ℕ)) (i : ℕ) → rest (drop i ls) ≡ drop (suc i) ls
rest_at [] zero = refl
rest_at [] (suc i) = refl
rest_at (l ∷ ls) zero = refl
rest_at (l ∷ ls) (suc i) = rest_at ls i

step_of : (ls : List (Option ℕ)) (i : ℕ) (v : Value) (vs : List Value)
    → i < length vs → v ≡ get_or vs i v
    → each_short (drop i ls) (items_view (drop i vs))
    ≡ item (short (first (drop i ls)) (view v))
    (each_short (drop (i + 1) ls) (items_view (drop (i + 1) vs)))
step_of ls i v vs h is =
    ap (λ ds. each_short (drop i ls) (items_view ds))
    (drop_more vs i v h ∙ ap (λ (w : Value). w ∷ drop (i + 1) vs) (sym is))
    ∙ ap (λ ks. item (short (first (drop i ls)) (view v))
    (each_short ks (items_view (drop (i + 1) vs))))
    (rest_at ls i ∙ ap (λ (j : ℕ). drop j ls) (sym (add-one i)))

-- with one more element, those that are left are one fewer
pub go_on : (ls : List (Option ℕ)) (i : ℕ) (v w : Value) (vs done : List Value)
    (whole : Items) → i < length vs → v ≡ get_or vs i v
    → view w ≡ short (first (drop i ls)) (view v)
    → with_items (items_view done) (each_short (drop i ls) (items_view (drop i vs))) ≡ whole
    → with_items (items_view (done ++ w ∷ []))
    (each_short (drop (i + 1) ls) (items_view (drop (i + 1) vs)))
    ≡ whole
go_on ls i v w vs done whole h is seen far =
    let left = each_short (drop (i + 1) ls) (items_view (drop (i + 1) vs)) in
    ap (λ ds. with_items ds left) (items_append done (w ∷ []))
    ∙ with_more (items_view done) (item (view w) no_items) left
    ∙ ap (λ d. with_items (items_view done) (item d left)) seen
    ∙ ap (with_items (items_view done)) (sym (step_of ls i v vs h is))
    ∙ far
