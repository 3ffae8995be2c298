-- Items beside the lists of values that are seen as them, and pictures one by one.
use Rattle.std.proofs.Common.{◌≡◌, ℕ, zero, suc, ◌+◌, ◌<◌, List, [], ◌∷◌, ◌++◌, length, drop}
use Rattle.std.proofs.Common.{refl, sym, ap, ◌∙◌, arith, Option, Some, None, Bool, true, false}
use Rattle.std.proofs.Common.{bytes_eq, string_bytes, cond, is_eq}
use Rattle.std.proofs.Common.{slice_get, nat_cmp, get_or, add-one, ◌≤◌, take}
use Rattle.std.proofs.Math.Seq.{take-suc}
use Rattle.std.proofs.lemmas.List.{drop_more}
use Rattle.std.proofs.lemmas.Map.Text.{is_eq-slice_cmp}
use Rattle.std.specs.Prelude.{unwrap_or}
use Rattle.std.specs.BTreeMap.{is_at}
use Rattle.std.specs.Cmp.Lexicographic.{slice_cmp}
use Rattle.std.specs.Map.{remove_entry, lookup}
use Rattle.serde_json.specs.Data.{Data, array, item, no_items, Items, member}
use Rattle.serde_json.specs.Events.{items_len}
use Rattle.serde_json.specs.View.{view, items_view, members_view}
use Rattle.serde_json.specs.declared.value.Value.{Value}
use Rattle.serde_json.proofs.Views.{Entry}
use Rattle.gltf_edit.specs.Embedded.{with_items, buffers_of, views_of, without, pictured, first}
use Rattle.gltf_edit.specs.Embedded.{rest}
use Rattle.gltf_edit.specs.Embedded.{shown, seats, sized, view_on, list_after, items_at}
use Rattle.gltf_edit.specs.declared.picture.Picture.{Picture}

-- ---- items

pub items_append : (vs ws : List Value)
    → items_view (vs ++ ws) ≡ with_items (items_view vs) (items_view ws)
items_append [] ws = refl
items_append (v ∷ vs) ws = ap (item (view v)) (items_append vs ws)

pub with_none : (ds : Items) → with_items ds no_items ≡ ds
with_none no_items = refl
with_none (item d ds) = ap (item d) (with_none ds)

pub with_more : (ds es fs : Items) → with_items (with_items ds es) fs
    ≡ with_items ds (with_items es fs)
with_more no_items es fs = refl
with_more (item d ds) es fs = ap (item d) (with_more ds es fs)

pub items_length : (vs : List Value) → items_len (items_view vs) ≡ length vs
items_length [] = refl
items_length (v ∷ vs) = ap suc (items_length vs)

-- ---- new buffers and views

pub buffers_last : (ps : List (Option Picture)) (p : Option Picture)
    → buffers_of (ps ++ p ∷ []) ≡ with_items (buffers_of ps) (buffers_of (p ∷ []))
buffers_last [] p = refl
buffers_last (None ∷ ps) p = buffers_last ps p
buffers_last (Some q ∷ ps) p = ap (item (sized q.length)) (buffers_last ps p)

pub views_last : (b : ℕ) (ps : List (Option Picture)) (p : Option Picture)
    → views_of b (ps ++ p ∷ [])
    ≡ with_items (views_of b ps) (views_of (b + items_len (views_of b ps)) (p ∷ []))
views_last b [] p = ap (λ (n : ℕ). views_of n (p ∷ [])) (omega arith)
views_last b (None ∷ ps) p = views_last b ps p
views_last b (Some q ∷ ps) p =
    let one : b + 1 + items_len (views_of (b + 1) ps) ≡ b + suc (items_len (views_of (b + 1) ps)) =
    omega arith in
    ap (item (view_on b q.length)) (views_last (b + 1) ps p
    ∙ ap (λ (n : ℕ). with_items (views_of (b + 1) ps) (views_of n (p ∷ []))) one)

-- ---- members

without_at : (b : Bool) (k : List ℕ) (e : Entry) (es fs : List Entry)
    → bytes_eq k (string_bytes e.0) ≡ b
    → without k (members_view es) ≡ without k (members_view fs)
    → without k (members_view (e ∷ es)) ≡ without k (members_view (cond b es (e ∷ fs)))
without_at true k e es fs is later = rw is refl
without_at false k e es fs is later =
    rw is (ap (member (string_bytes e.0) (view e.1)) later)

-- what is taken out of a map plays no part where members at its key are left out
pub without_removed : (k : List ℕ) (es : List Entry)
    → without k (members_view es)
    ≡ without k (members_view (remove_entry (is_at (λ l. slice_cmp nat_cmp k (string_bytes l))) es))
without_removed k [] = refl
without_removed k (e ∷ es) =
    without_at (is_eq (slice_cmp nat_cmp k (string_bytes e.0))) k e es
    (remove_entry (is_at (λ l. slice_cmp nat_cmp k (string_bytes l))) es)
    (sym (is_eq-slice_cmp k (string_bytes e.0))) (without_removed k es)

none_at : (b : Bool) (e : Value) (o : Option Value)
    → ◌≡◌ {A = Option Value} (cond b (Some e) o) None → (b ≡ false) × (o ≡ None)
none_at true e o is = cc
none_at false e o is = (refl, is)

-- where nothing is at the key, nothing is left out
pub without_none : (k : List ℕ) (es : List Entry)
    → lookup (is_at (λ l. slice_cmp nat_cmp k (string_bytes l))) es ≡ None
    → without k (members_view es) ≡ members_view es
without_none k [] is = refl
without_none k (e ∷ es) is =
    let both = none_at (is_eq (slice_cmp nat_cmp k (string_bytes e.0))) e.1
    (lookup (is_at (λ l. slice_cmp nat_cmp k (string_bytes l))) es) is in
    let apart : bytes_eq k (string_bytes e.0) ≡ false =
    sym (is_eq-slice_cmp k (string_bytes e.0)) ∙ both.0 in
    rw apart (ap (member (string_bytes e.0) (view e.1)) (without_none k es both.1))

-- ---- pictures of images

pub first_at : (ps : List (Option Picture)) (i : ℕ)
    → first (drop i ps) ≡ unwrap_or (slice_get ps i) None
first_at [] zero = refl
first_at [] (suc i) = refl
first_at (p ∷ ps) zero = refl
first_at (p ∷ ps) (suc i) = first_at ps i

pub rest_at : (ps : List (Option Picture)) (i : ℕ) → rest (drop i ps) ≡ drop (suc i) ps
rest_at [] zero = refl
rest_at [] (suc i) = refl
rest_at (p ∷ ps) zero = refl
rest_at (p ∷ ps) (suc i) = rest_at ps i

-- a copy of each picture goes where it goes
pub step_of : (n : ℕ) (ps : List (Option Picture)) (i : ℕ) (v : Value) (vs : List Value)
    → i < length vs → v ≡ get_or vs i v
    → pictured n (drop i ps) (items_view (drop i vs))
    ≡ item (shown n (first (drop i ps)) (view v))
    (pictured (n + seats (first (drop i ps))) (drop (i + 1) ps) (items_view (drop (i + 1) vs)))
step_of n ps i v vs h is =
    ap (λ ds. pictured n (drop i ps) (items_view ds))
    (drop_more vs i v h ∙ ap (λ (w : Value). w ∷ drop (i + 1) vs) (sym is))
    ∙ ap (λ qs. item (shown n (first (drop i ps)) (view v))
    (pictured (n + seats (first (drop i ps))) qs (items_view (drop (i + 1) vs))))
    (rest_at ps i ∙ ap (λ (j : ℕ). drop j ps) (sym (add-one i)))

-- with one more image, those that are left are one fewer
pub go_on : (n : ℕ) (ps : List (Option Picture)) (i : ℕ) (v w : Value) (vs done : List Value)
    (whole : Items) → i < length vs → v ≡ get_or vs i v
    → view w ≡ shown n (first (drop i ps)) (view v)
    → with_items (items_view done) (pictured n (drop i ps) (items_view (drop i vs))) ≡ whole
    → with_items (items_view (done ++ w ∷ []))
    (pictured (n + seats (first (drop i ps))) (drop (i + 1) ps) (items_view (drop (i + 1) vs)))
    ≡ whole
go_on n ps i v w vs done whole h is seen far =
    let left = pictured (n + seats (first (drop i ps))) (drop (i + 1) ps)
    (items_view (drop (i + 1) vs)) in
    ap (λ ds. with_items ds left) (items_append done (w ∷ []))
    ∙ with_more (items_view done) (item (view w) no_items) left
    ∙ ap (λ d. with_items (items_view done) (item d left)) seen
    ∙ ap (with_items (items_view done)) (sym (step_of n ps i v vs h is))
    ∙ far

pub few : (o : Option Picture) → seats o ≤ 1
few None = omega arith
few (Some p) = omega arith

pub taken_more : (ps : List (Option Picture)) (i : ℕ) (p : Option Picture) → i < length ps
    → p ≡ get_or ps i p → take (i + 1) ps ≡ take i ps ++ p ∷ []
taken_more ps i p h is =
    ap (λ (n : ℕ). take n ps) (add-one i) ∙ take-suc ps i p h
    ∙ ap (λ (q : Option Picture). take i ps ++ q ∷ []) (sym is)

-- a list after some more is made anew
pub list_of_some : (k : List ℕ) (more : List Value) (d : Data) → (length more ≡ 0 → ⊥)
    → list_after k (items_view more) d ≡ Some (array (with_items (items_at k d) (items_view more)))
list_of_some k [] d some = absurd (some refl)
list_of_some k (v ∷ more) d some = refl
