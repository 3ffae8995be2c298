-- Lists of values beside the items that they are seen as.
use Rattle.std.proofs.Common.{◌≡◌, ℕ, ◌+◌, ◌<◌, List, [], ◌∷◌, ◌++◌, Bool, true, false, length, map}
use Rattle.std.proofs.Common.{take, get_or, refl, ap, sym, ◌∙◌, Option, Some, None, add-one, zero}
use Rattle.std.proofs.Common.{suc}
use Rattle.std.proofs.Common.{if◌then◌else◌, Bor, arith}
use Rattle.std.proofs.Math.Seq.{take-suc}
use Rattle.std.proofs.lemmas.List.{map-append, append-nil}
use Rattle.serde_json.specs.Data.{Data, Items, item}
use Rattle.serde_json.specs.View.{view, items_of, items_view}
use Rattle.serde_json.specs.declared.value.Value.{Value}
use Rattle.gltf_edit.specs.Bundled.{mapped}
use Rattle.gltf_mend.specs.Channels.{kept, names_no_node, IsKept}
use Rattle.gltf_mend.specs.Textures.{first_source, or_else, source_in}

pub mapped_view : (f : Data → Data) (vs : List Value)
    → items_of (map (λ v. f (view v)) vs) ≡ mapped f (items_view vs)
mapped_view f [] = refl
mapped_view f (v ∷ vs) = ap (item (f (view v))) (mapped_view f vs)

-- ---- what is kept of a list

abbrev pub kept_list : List Data → List Data
kept_list [] = []
kept_list (d ∷ ds) = if names_no_node d then kept_list ds else d ∷ kept_list ds

kept_more : (b : Bool) (d : Data) (ks ls ms : List Data) → ks ≡ ls ++ ms
    → (if b then ks else d ∷ ks) ≡ (if b then ls else d ∷ ls) ++ ms
kept_more true d ks ls ms is = is
kept_more false d ks ls ms is = ap (λ ds. d ∷ ds) is

pub kept_last : (ds : List Data) (d : Data)
    → kept_list (ds ++ d ∷ []) ≡ kept_list ds ++ kept_list (d ∷ [])
kept_last [] d = refl
kept_last (e ∷ ds) d = kept_more (names_no_node e) e _ _ _ (kept_last ds d)

of_one : (b : Bool) (ks : List Data) (d : Data) (new : List Data)
    → new ≡ (if b then ks else ks ++ d ∷ []) → new ≡ ks ++ (if b then [] else d ∷ [])
of_one true ks d new is = is ∙ sym (append-nil ks)
of_one false ks d new is = is

taken_more : (vs : List Value) (i : ℕ) (v : Value) → i < length vs → v ≡ get_or vs i v
    → map view (take (i + 1) vs) ≡ map view (take i vs) ++ view v ∷ []
taken_more vs i v h is =
    ap (λ (n : ℕ). map view (take n vs)) (add-one i)
    ∙ ap (map view) (take-suc vs i v h ∙ ap (λ (w : Value). take i vs ++ w ∷ []) (sym is))
    ∙ map-append view (take i vs) (v ∷ [])

-- one channel more
pub keeps_more : (vs : List Value) (i : ℕ) (v : Value) (old new : List Data)
    → i < length vs → v ≡ get_or vs i v → old ≡ kept_list (map view (take i vs))
    → IsKept (view v) old new → new ≡ kept_list (map view (take (i + 1) vs))
keeps_more vs i v old new h is before kept =
    of_one (names_no_node (view v)) old (view v) new kept
    ∙ ap (λ ks. ks ++ kept_list (view v ∷ [])) before
    ∙ sym (kept_last (map view (take i vs)) (view v))
    ∙ ap kept_list (sym (taken_more vs i v h is))

kept_item : (b : Bool) (d : Data) (ds : List Data) (ks : Items) → items_of ds ≡ ks
    → items_of (if b then ds else d ∷ ds) ≡ (if b then ks else item d ks)
kept_item true d ds ks is = is
kept_item false d ds ks is = ap (item d) is

-- as items
pub kept_items : (ds : List Data) → items_of (kept_list ds) ≡ kept (items_of ds)
kept_items [] = refl
kept_items (d ∷ ds) = kept_item (names_no_node d) d (kept_list ds) _ (kept_items ds)

-- ---- images by extensions

both_none : (a b : Option ℕ) → or_else a b ≡ None → (a ≡ None) × (b ≡ None)
both_none None b none = (refl, none)
both_none (Some n) b none = cc

abbrev pub first_of : List (Bor (List ℕ)) → Data → Option ℕ
first_of ns d = first_source (map (λ n. n.now) ns) d

-- none of the names before the next one names an image, and the next one does
pub first_found : (d : Data) (ns : List (Bor (List ℕ))) (i s : ℕ) (z : Bor (List ℕ))
    → i < length ns → first_of (take i ns) d ≡ None → source_in (get_or ns i z).now d ≡ Some s
    → first_of ns d ≡ Some s
first_found d [] i s z h none found = absurd (omega arith)
first_found d (m ∷ ns) zero s z h none found = ap (λ o. or_else o (first_of ns d)) found
first_found d (m ∷ ns) (suc i) s z h none found =
    let both = both_none (source_in m.now d) (first_of (take i ns) d) none in
    ap (λ o. or_else o (first_of ns d)) both.0
    ∙ first_found d ns i s z (omega arith) both.1 found

-- nor does the next one
pub none_more : (d : Data) (ns : List (Bor (List ℕ))) (i : ℕ) (z : Bor (List ℕ))
    → i < length ns → first_of (take i ns) d ≡ None → source_in (get_or ns i z).now d ≡ None
    → first_of (take (suc i) ns) d ≡ None
none_more d [] i z h none found = absurd (omega arith)
none_more d (m ∷ ns) zero z h none found = ap (λ o. or_else o None) found
none_more d (m ∷ ns) (suc i) z h none found =
    let both = both_none (source_in m.now d) (first_of (take i ns) d) none in
    ap (λ o. or_else o (first_of (take (suc i) ns) d)) both.0
    ∙ none_more d ns i z (omega arith) both.1 found
