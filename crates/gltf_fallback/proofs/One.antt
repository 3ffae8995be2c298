-- Lists of values beside the items that they are seen as, and buffers that have no bytes, one by
-- one.
use Rattle.std.proofs.Common.{◌≡◌, ℕ, ◌+◌, ◌<◌, List, length, drop, get_or, Bool, true, false}
use Rattle.std.proofs.Common.{refl, sym, ap, map, ◌∙◌, [], ◌∷◌, ◌++◌}
use Rattle.std.proofs.lemmas.List.{drop_more}
use Rattle.std.specs.Prelude.{if◌then◌else◌}
use Rattle.serde_json.specs.Data.{Data, Items, no_items, item}
use Rattle.serde_json.specs.View.{view, items_of, items_view}
use Rattle.serde_json.specs.declared.value.Value.{Value}
use Rattle.gltf_edit.specs.Bundled.{mapped}
use Rattle.gltf_edit.specs.Embedded.{with_items}
use Rattle.gltf_fallback.specs.Bare.{is_bare, bare_of}

pub items_append : (vs ws : List Value)
    → items_view (vs ++ ws) ≡ with_items (items_view vs) (items_view ws)
items_append [] ws = refl
items_append (v ∷ vs) ws = ap (item (view v)) (items_append vs ws)

pub with_none : (ds : Items) → with_items ds no_items ≡ ds
with_none no_items = refl
with_none (item d ds) = ap (item d) (with_none ds)

with_more : (ds es fs : Items) → with_items (with_items ds es) fs ≡ with_items ds (with_items es fs)
with_more no_items es fs = refl
with_more (item d ds) es fs = ap (item d) (with_more ds es fs)

pub mapped_view : (f : Data → Data) (vs : List Value)
    → items_of (map (λ v. f (view v)) vs) ≡ mapped f (items_view vs)
mapped_view f [] = refl
mapped_view f (v ∷ vs) = ap (item (f (view v))) (mapped_view f vs)

one_at : (b : Bool) (d : Data) (rest : Items)
    → with_items (if b then item d no_items else no_items) rest ≡ (if b then item d rest else rest)
one_at true d rest = refl
one_at false d rest = refl

step_of : (vs : List Value) (i : ℕ) (v : Value) → i < length vs → v ≡ get_or vs i v
    → items_view (drop i vs) ≡ item (view v) (items_view (drop (i + 1) vs))
step_of vs i v h is =
    ap items_view (drop_more vs i v h ∙ ap (λ (w : Value). w ∷ drop (i + 1) vs) (sym is))

-- with one more buffer, those that are left are one fewer
pub go_on : (i : ℕ) (v : Value) (vs done more : List Value) (whole : Items) → i < length vs
    → v ≡ get_or vs i v
    → items_view more ≡ with_items (items_view done) (bare_of (item (view v) no_items))
    → with_items (items_view done) (bare_of (items_view (drop i vs))) ≡ whole
    → with_items (items_view more) (bare_of (items_view (drop (i + 1) vs))) ≡ whole
go_on i v vs done more whole h is made far =
    let left = bare_of (items_view (drop (i + 1) vs)) in
    ap (λ ds. with_items ds left) made
    ∙ with_more (items_view done) (bare_of (item (view v) no_items)) left
    ∙ ap (with_items (items_view done)) (one_at (is_bare (view v)) (view v) left
    ∙ ap bare_of (sym (step_of vs i v h is)))
    ∙ far
