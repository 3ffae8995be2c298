-- Media types of images, by their URIs and by `mimeType`.
use Rattle.std.proofs.Common.{◌≡◌, ℕ, List, ◌∷◌, ◌++◌, Option, Some, None, Bool, true, false, drop}
use Rattle.std.proofs.Common.{refl, sym, ap, ◌∙◌, codes, take, length, nat_eq, append_assoc}
use Rattle.std.proofs.lemmas.Bool.Decides.{Decides-eqb}
use Rattle.std.proofs.lemmas.List.{take-append-drop}
use Rattle.std.proofs.lemmas.Slice.Eq.{starts_is}
use Rattle.std.specs.List.{starts_with, before_first, position_or_len}
use Rattle.std.specs.Prelude.{◌==◌, if◌then◌else◌, option_and_then}
use Rattle.gltf_buffers.specs.Uri as uri
use Rattle.gltf_buffers.specs.Uri.{uri_of, cut_at}
use Rattle.gltf_bundle.specs.Media.{begins, data_head, image_type, is_image_type}
use Rattle.gltf_bundle.specs.Media.{media_of, named_media, or_else, own_media}
use Rattle.gltf_converted.specs.Laws.{NamesNoOther}

-- ---- URIs that are relative references

-- a text that begins with `data:` is none
data_leads : (rest name : List ℕ) → uri_of (codes "data:" ++ rest) ≡ uri.Relative name → ⊥
unfolding uri_of cut_at
data_leads rest name is = cc

whole : (t : List ℕ) (n : ℕ) (w rest : List ℕ) → take n t ≡ w ++ rest → t ≡ w ++ (rest ++ drop n t)
whole t n w rest is =
    sym (take-append-drop n t) ∙ ap (λ (xs : List ℕ). xs ++ drop n t) is
    ∙ append_assoc w rest (drop n t)

-- what stands before the first semicolon
abbrev front : List ℕ → List ℕ
front t = before_first (λ b. b == 59) t

begun_data : (t name : List ℕ) → uri_of t ≡ uri.Relative name
    → begins (front t) (codes "data:") ≡ true → ⊥
begun_data t name is begun =
    let word = codes "data:" in
    let n = position_or_len (λ b. b == 59) t in
    let parts : front t ≡ word ++ drop (length word) (front t) =
    (starts_is Decides-eqb (front t) word (starts_with nat_eq (front t) word) refl).0 begun in
    let all = whole t n word (drop (length word) (front t)) parts in
    data_leads (drop (length word) (front t) ++ drop n t) name (sym (ap uri_of all) ∙ is)

of_bool : (t name : List ℕ) (b : Bool) → uri_of t ≡ uri.Relative name
    → begins (front t) (codes "data:") ≡ b → begins (front t) (codes "data:") ≡ false
of_bool t name true is begun = absurd (begun_data t name is begun)
of_bool t name false is begun = begun

not_data : (t name : List ℕ) → uri_of t ≡ uri.Relative name
    → begins (front t) (codes "data:") ≡ false
not_data t name is = of_bool t name (begins (front t) (codes "data:")) is refl

pub names_none : (t name : List ℕ) → uri_of t ≡ uri.Relative name → named_media t ≡ None
names_none t name is =
    ap (λ (b : Bool).
    option_and_then image_type (if b then Some (drop 5 (front t)) else None))
    (not_data t name is)

-- ---- what a URI names is a media type

of_choice : (h m : List ℕ) (b : Bool) → is_image_type h ≡ b
    → ◌≡◌ {A = Option (List ℕ)} (if b then Some h else None) (Some m) → image_type m ≡ Some m
of_choice h m true is same =
    let of_h : h ≡ m = cc in
    ap (λ (x : List ℕ). image_type x) (sym of_h)
    ∙ ap (λ (b : Bool). if b then Some h else None) is ∙ ap (λ (x : List ℕ). Some x) of_h
of_choice h m false is same = cc

of_head : (o : Option (List ℕ)) (m : List ℕ) → option_and_then image_type o ≡ Some m
    → image_type m ≡ Some m
of_head None m is = cc
of_head (Some h) m is = of_choice h m (is_image_type h) refl is

named_is : (t m : List ℕ) → named_media t ≡ Some m → image_type m ≡ Some m
named_is t m is = of_head (data_head t) m is

of_named : (o : Option (List ℕ)) (t : List ℕ) (own : Option (List ℕ)) (bytes : List ℕ)
    → named_media t ≡ o → NamesNoOther t own → or_else o (own_media own bytes) ≡ own_media own bytes
of_named None t own bytes is alone = refl
of_named (Some m) t own bytes is alone =
    sym (ap (λ (u : Option (List ℕ)). own_media u bytes) (alone m is)
    ∙ ap (λ (u : Option (List ℕ)). or_else u (own_media None bytes)) (named_is t m is))

-- where a URI names no other media type, an image has that of its `mimeType` and of its bytes
pub same_media : (t : List ℕ) (own : Option (List ℕ)) (bytes : List ℕ) → NamesNoOther t own
    → media_of t own bytes ≡ own_media own bytes
same_media t own bytes alone = of_named (named_media t) t own bytes refl alone
