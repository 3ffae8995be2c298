-- Lists of values beside the items that they are seen as.
use Rattle.std.proofs.Common.{◌≡◌, ℕ, suc, ◌+◌, ◌<◌, List, [], ◌∷◌, ◌++◌, length, map, take, get_or}
use Rattle.std.proofs.Common.{refl, ap, sym, ◌∙◌, subst, arith, codes, Option, Some, add-one}
use Rattle.std.proofs.Math.Seq.{take-suc}
use Rattle.std.proofs.lemmas.List.{map-append}
use Rattle.std.specs.Prelude.{MatchOption}
use Rattle.serde_json.specs.Data.{Data, no_items, item, object, no_members, member}
use Rattle.serde_json.specs.Find.{get_item}
use Rattle.serde_json.specs.View.{view, items_of, items_view}
use Rattle.serde_json.proofs.Views.{get_item_within}
use Rattle.serde_json.specs.declared.value.Value.{Value}
use Rattle.gltf_edit.specs.Bundled.{mapped, one_of, whole, AllPlaced, IsPlaced}
use Rattle.gltf_edit.specs.declared.span.Span.{Span}

pub some_of : (total : ℕ) (vs : List Value) → (length vs ≡ 0 → ⊥)
    → one_of total (items_view vs)
    ≡ item (object (member (codes "byteLength") (whole total) no_members)) no_items
some_of total [] h = absurd (h refl)
some_of total (v ∷ vs) h = refl

pub none_of : (total : ℕ) (vs : List Value) → length vs ≡ 0
    → one_of total (items_view vs) ≡ no_items
none_of total [] h = refl
none_of total (v ∷ vs) h = absurd (omega arith)

pub mapped_view : (f : Data → Data) (vs : List Value)
    → items_of (map (λ v. f (view v)) vs) ≡ mapped f (items_view vs)
mapped_view f [] = refl
mapped_view f (v ∷ vs) = ap (item (f (view v))) (mapped_view f vs)

pub all_placed : (spans : List Span) (vs : List Value)
    → ((j : ℕ) → j < length vs → MatchOption (get_item j (items_view vs)) ⊥ (IsPlaced spans))
    → AllPlaced spans (items_view vs)
all_placed spans [] h = tt
all_placed spans (v ∷ vs) h =
    (h 0 (omega arith), all_placed spans vs (λ j lt. h (suc j) (omega arith)))

taken_more : (vs : List Value) (i : ℕ) (v : Value) → i < length vs → v ≡ get_or vs i v
    → take (i + 1) vs ≡ take i vs ++ v ∷ []
taken_more vs i v h is =
    ap (λ (n : ℕ). take n vs) (add-one i) ∙ take-suc vs i v h
    ∙ ap (λ (w : Value). take i vs ++ w ∷ []) (sym is)

-- one more value is seen as what f gives of it
pub seen_more : (f : Data → Data) (vs done : List Value) (i : ℕ) (v w : Value)
    → i < length vs → v ≡ get_or vs i v
    → map view done ≡ map (λ v. f (view v)) (take i vs)
    → view w ≡ f (view v)
    → map view (done ++ w ∷ []) ≡ map (λ v. f (view v)) (take (i + 1) vs)
seen_more f vs done i v w h is seen more =
    let g : Value → Data = λ v. f (view v) in
    map-append view done (w ∷ [])
    ∙ ap (λ ds. ds ++ view w ∷ []) seen
    ∙ ap (λ d. map g (take i vs) ++ d ∷ []) more
    ∙ sym (map-append g (take i vs) (v ∷ []))
    ∙ ap (map g) (sym (taken_more vs i v h is))

found_at : (vs : List Value) (i : ℕ) (v : Value) → i < length vs → v ≡ get_or vs i v
    → get_item i (items_view vs) ≡ Some (view v)
found_at vs i v h is = sym (get_item_within vs i v h) ∙ ap (λ w. Some (view w)) (sym is)

pub at_item : (P : Data → Type 0) (vs : List Value) (i : ℕ) (v : Value)
    → i < length vs → v ≡ get_or vs i v → P (view v)
    → MatchOption (get_item i (items_view vs)) ⊥ P
at_item P vs i v h is p =
    subst (λ (o : Option Data). MatchOption o ⊥ P) (sym (found_at vs i v h is)) p
