-- Paths that are apart.
use Rattle.std.proofs.Common.{◌≡◌, ◌≢◌, ℕ, List, [], ◌∷◌, ◌++◌, Option, None, Some}
use Rattle.std.proofs.Common.{refl, sym, ap, subst, map, ◌∙◌, append_assoc, string_bytes, codes}
use Rattle.std.proofs.lemmas.List.{append_cancel_left, map-append}
use Rattle.gltf_detach.specs.declared.part.Part.{Part}
use Rattle.gltf_split.specs.Laws.{AreApart, IsNoneOf, names_of_buffers, names_of_images}
use Rattle.gltf_split.specs.Laws.{file_names}
use Rattle.gltf_split.specs.declared.splitting.Pieces.{Pieces}
use Rattle.gltf_convert.specs.Files.{Written, file_of, beside, beside_some, files_of}
use Rattle.gltf_convert.specs.Laws.{paths_of}

abbrev in_folder : List ℕ → List (List ℕ) → List (List ℕ)
in_folder base xs = map (λ x. base ++ x) xs

none_in_folder : (base x : List ℕ) (ys : List (List ℕ)) → IsNoneOf x ys
    → IsNoneOf (base ++ x) (in_folder base ys)
none_in_folder base x [] none = tt
none_in_folder base x (y ∷ ys) none =
    ((λ same. none.0 (append_cancel_left base x y same)), none_in_folder base x ys none.1)

apart_in_folder : (base : List ℕ) (xs : List (List ℕ)) → AreApart xs → AreApart (in_folder base xs)
apart_in_folder base [] apart = tt
apart_in_folder base (x ∷ xs) apart =
    (none_in_folder base x xs apart.0, apart_in_folder base xs apart.1)

none_more : (x y : List ℕ) (ys : List (List ℕ)) → x ≢ y → IsNoneOf x ys
    → IsNoneOf x (ys ++ y ∷ [])
none_more x y [] other none = (other, tt)
none_more x y (z ∷ zs) other none = (none.0, none_more x y zs other none.1)

-- the first may stand last
apart_last : (x : List ℕ) (ys : List (List ℕ)) → AreApart (x ∷ ys) → AreApart (ys ++ x ∷ [])
apart_last x [] apart = (tt, tt)
apart_last x (y ∷ ys) apart = (
  none_more y x ys (λ same. apart.0.0 (sym same)) apart.1.0,
  apart_last x ys (apart.0.1, apart.1.1),
)

paths_of_buffers : (base : List ℕ) (ps : List Part)
    → paths_of (beside base ps) ≡ in_folder base (names_of_buffers ps)
paths_of_buffers base [] = refl
paths_of_buffers base (p ∷ ps) =
    ap (λ xs. (base ++ string_bytes p.name) ∷ xs) (paths_of_buffers base ps)

paths_of_images : (base : List ℕ) (ps : List (Option Part))
    → paths_of (beside_some base ps) ≡ in_folder base (names_of_images ps)
paths_of_images base [] = refl
paths_of_images base (None ∷ ps) = paths_of_images base ps
paths_of_images base (Some p ∷ ps) =
    ap (λ xs. (base ++ string_bytes p.name) ∷ xs) (paths_of_images base ps)

paths_of_all : (base to : List ℕ) (set : Pieces) → paths_of (files_of base to set)
    ≡ in_folder base (names_of_buffers set.buffers.items ++ names_of_images set.images.items)
    ++ to ∷ []
paths_of_all base to set =
    let ps = set.buffers.items in
    let is = set.images.items in
    let text : List Written = (to, string_bytes set.json) ∷ [] in
    let front = in_folder base (names_of_buffers ps) in
    map-append (λ (w : Written). w.0) (beside base ps) (beside_some base is ++ text)
    ∙ ap (λ xs. xs ++ paths_of (beside_some base is ++ text)) (paths_of_buffers base ps)
    ∙ ap (λ xs. front ++ xs) (map-append (λ (w : Written). w.0) (beside_some base is) text
    ∙ ap (λ xs. xs ++ to ∷ []) (paths_of_images base is))
    ∙ sym (append_assoc front (in_folder base (names_of_images is)) (to ∷ []))
    ∙ ap (λ xs. xs ++ to ∷ []) (sym (map-append (λ (x : List ℕ). base ++ x)
    (names_of_buffers ps) (names_of_images is)))

pub paths_apart : (stem base : List ℕ) (set : Pieces) → AreApart (file_names stem set)
    → AreApart (paths_of (files_of base (base ++ (stem ++ codes ".gltf")) set))
paths_apart stem base set apart =
    let to = base ++ (stem ++ codes ".gltf") in
    let names = names_of_buffers set.buffers.items ++ names_of_images set.images.items in
    subst AreApart (sym (paths_of_all base to set))
    (apart_last to (in_folder base names) (apart_in_folder base (file_names stem set) apart))
