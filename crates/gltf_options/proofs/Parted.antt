-- Names that were met one by one, with their indices, parted by whether they stand in a list.
use Rattle.std.proofs.Common.{◌≡◌, ℕ, ◌+◌, Bool, true, false, List, [], ◌∷◌, ◌++◌, map, String}
use Rattle.std.proofs.Common.{Global, string_bytes, if◌then◌else◌, refl, sym, ap, ◌∙◌}
use Rattle.std.proofs.lemmas.List.{map-append, append-nil}
use Rattle.std.proofs.lemmas.List.Elements.{filter-append}
use Rattle.std.specs.Prelude.{filter, not}
use Rattle.std.specs.List.{enumerate_from}
use Rattle.gltf_json_record.specs.Member.{is_one_of}
use Rattle.gltf_options.specs.Names.{texts, left_of, taken_of}
use Rattle.gltf_options.specs.Places.{places_left}

abbrev pub Met : Type 0
Met = List (ℕ × String Global)

abbrev names_of : Met → List (List ℕ)
names_of met = texts (map (λ p. p.1) met)

abbrev is_left : List (List ℕ) → ℕ × String Global → Bool
is_left also p = not (is_one_of also (string_bytes p.1))

-- the indices of those that are not in the list
abbrev places_of : List (List ℕ) → Met → List ℕ
places_of also met = map (λ p. p.0) (filter (is_left also) met)

abbrev pub AreParted : List (List ℕ) → Met → List (String Global) → List ℕ → List (String Global)
    → Type 0
AreParted also met left places taken =
    (texts left ≡ left_of also (names_of met))
    × (places ≡ places_of also met)
    × (texts taken ≡ taken_of also (names_of met))

-- ---- one more name

names_more : (met : Met) (p : ℕ × String Global)
    → names_of (met ++ p ∷ []) ≡ names_of met ++ string_bytes p.1 ∷ []
names_more met p =
    ap texts (map-append (λ (q : ℕ × String Global). q.1) met (p ∷ []))
    ∙ map-append string_bytes (map (λ q. q.1) met) (p.1 ∷ [])

-- it is kept by a test, or is not
kept_more : {X : Type 0} (test : X → Bool) (xs : List X) (x : X) → test x ≡ true
    → filter test (xs ++ x ∷ []) ≡ filter test xs ++ x ∷ []
kept_more test xs x is =
    filter-append test xs (x ∷ [])
    ∙ ap (λ (b : Bool). filter test xs ++ (if b then x ∷ [] else [])) is

not_more : {X : Type 0} (test : X → Bool) (xs : List X) (x : X) → test x ≡ false
    → filter test (xs ++ x ∷ []) ≡ filter test xs
not_more test xs x is =
    filter-append test xs (x ∷ [])
    ∙ ap (λ (b : Bool). filter test xs ++ (if b then x ∷ [] else [])) is
    ∙ append-nil (filter test xs)

texts_more : (names after : List (String Global)) (name : String Global)
    → after ≡ names ++ name ∷ [] → texts after ≡ texts names ++ string_bytes name ∷ []
texts_more names after name is = ap texts is ∙ map-append string_bytes names (name ∷ [])

pub one_taken : (also : List (List ℕ)) (met : Met) (left taken after : List (String Global))
    (places : List ℕ) (index : ℕ) (name : String Global)
    → AreParted also met left places taken → is_one_of also (string_bytes name) ≡ true
    → after ≡ taken ++ name ∷ [] → AreParted also (met ++ (index, name) ∷ []) left places after
one_taken also met left taken after places index name parted is more =
    let text = string_bytes name in
    let names = names_more met (index, name) in (
      parted.0
          ∙ sym (ap (left_of also) names
          ∙ not_more (λ t. not (is_one_of also t)) (names_of met) text (ap not is)),
      parted.1
          ∙ ap (map (λ (p : ℕ × String Global). p.0))
          (sym (not_more (is_left also) met (index, name) (ap not is))),
      texts_more taken after name more
          ∙ ap (λ (ts : List (List ℕ)). ts ++ text ∷ []) parted.2
          ∙ sym (ap (taken_of also) names ∙ kept_more (is_one_of also) (names_of met) text is),
    )

pub one_left : (also : List (List ℕ)) (met : Met) (left taken after : List (String Global))
    (places places_after : List ℕ) (index : ℕ) (name : String Global)
    → AreParted also met left places taken → is_one_of also (string_bytes name) ≡ false
    → after ≡ left ++ name ∷ [] → places_after ≡ places ++ index ∷ []
    → AreParted also (met ++ (index, name) ∷ []) after places_after taken
one_left also met left taken after places places_after index name parted is more place =
    let text = string_bytes name in
    let names = names_more met (index, name) in (
      texts_more left after name more
          ∙ ap (λ (ts : List (List ℕ)). ts ++ text ∷ []) parted.0
          ∙ sym (ap (left_of also) names
          ∙ kept_more (λ t. not (is_one_of also t)) (names_of met) text (ap not is)),
      place
          ∙ ap (λ (is_ : List ℕ). is_ ++ index ∷ []) parted.1
          ∙ sym (map-append (λ (p : ℕ × String Global). p.0) (filter (is_left also) met)
          ((index, name) ∷ []))
          ∙ ap (map (λ (p : ℕ × String Global). p.0))
          (sym (kept_more (is_left also) met (index, name) (ap not is))),
      parted.2
          ∙ sym (ap (taken_of also) names
          ∙ not_more (is_one_of also) (names_of met) text is),
    )

-- ---- all names

places_from : (also : List (List ℕ)) (i : ℕ) (names : List (String Global))
    → places_of also (enumerate_from i names)
    ≡ map (λ p. p.0) (filter (λ p. not (is_one_of also p.1)) (enumerate_from i (texts names)))
places_from also i [] = refl
places_from also i (name ∷ names) =
    let rest = places_from also (i + 1) names in
    elim (is_one_of also (string_bytes name)) as (λ b.
    map (λ (p : ℕ × String Global). p.0)
    (if not b then (i, name) ∷ filter (is_left also) (enumerate_from (i + 1) names)
    else filter (is_left also) (enumerate_from (i + 1) names))
    ≡ map (λ (p : ℕ × List ℕ). p.0)
    (if not b then (i, string_bytes name)
    ∷ filter (λ p. not (is_one_of also p.1)) (enumerate_from (i + 1) (texts names))
    else filter (λ p. not (is_one_of also p.1)) (enumerate_from (i + 1) (texts names))))
    [ true ↦ rest | false ↦ ap (λ (is_ : List ℕ). i ∷ is_) rest ]

pairs : (met : Met) → map (λ p. (p.0, p.1)) met ≡ met
pairs [] = refl
pairs (p ∷ met) = ap (λ (ps : Met). p ∷ ps) (pairs met)

pub all_places : (also : List (List ℕ)) (met : Met) (names : List (String Global))
    → map (λ p. (p.0, p.1)) met ≡ enumerate_from 0 names
    → places_of also met ≡ places_left also (texts names)
all_places also met names is =
    ap (places_of also) (sym (pairs met) ∙ is) ∙ places_from also 0 names
