-- The faults of a document without the names of a list, at the places of the file, are those of the
-- file but for these names.
use Rattle.std.proofs.Common.{◌≡◌, ℕ, ◌+◌, Bool, true, false, List, [], ◌∷◌, ◌++◌, map}
use Rattle.std.proofs.Common.{String, Vec, Global, Option, Some, None, suc, string_bytes}
use Rattle.std.proofs.Common.{if◌then◌else◌, refl, sym, ap, ap₂, subst, ◌∙◌, zero-add, add-zero}
use Rattle.std.proofs.Common.{append_assoc, arith}
use Rattle.std.proofs.lemmas.List.{map-append, append-nil}
use Rattle.std.proofs.lemmas.List.Elements.{filter-append}
use Rattle.std.specs.Prelude.{not, filter, slice_get, bytes_eq, codes, option_and_then}
use Rattle.std.specs.List.{enumerate_from}
use Rattle.std.specs.Option.{option_map_or}
use Rattle.gltf_json_record.specs.Member.{is_one_of}
use Rattle.gltf_json_record.specs.Place.{Place, named, numbered, keyed}
use Rattle.gltf_json.specs.declared.root.Root.{Root}
use Rattle.gltf_validation.specs.declared.error.Error.TheVariants.{Unsupported}
use Rattle.gltf_validation.specs.Documents.{Faults, counts_of, root_rules, first_members_rules}
use Rattle.gltf_validation.specs.Documents.{required_rules, supported_rules, supported_extensions}
use Rattle.gltf_validation.specs.Documents.{root_extensions_rules}
use Rattle.gltf_validation.specs.Members.{member, index_rules, optional_rules, list_rules}
use Rattle.gltf_validation.specs.Members.{elements_rules}
use Rattle.gltf_validation.specs.Rules.{Rules, Nothing, Condition, At, Both, ◌&◌, Check, checks_at}
use Rattle.gltf_validation.specs.Rules.{broken}
use Rattle.gltf_validation.specs.Scenes.{scene_rules}
use Rattle.gltf_validation.specs.Skins.{skin_rules}
use Rattle.gltf_validation.specs.Textures.{texture_rules}
use Rattle.gltf_options.specs.Besides.{IsBesides, required_of}
use Rattle.gltf_options.specs.Broken.{Fault, required_index, is_listed_at, faults_besides}
use Rattle.gltf_options.specs.Names.{texts, left_of}
use Rattle.gltf_options.specs.Places.{places_left, required_at, in_file}

abbrev is_told : List (List ℕ) → List (List ℕ) → Fault → Bool
is_told also required f = not (is_listed_at also required f.0)

-- ---- rules of some and then of others

broken-append : (a b : List Check) → broken (a ++ b) ≡ broken a ++ broken b
broken-append [] b = refl
broken-append (c ∷ cs) b =
    let step : broken (cs ++ b) ≡ broken cs ++ broken b = broken-append cs b in
    elim (c.holds) as (λ h. (if h then broken (cs ++ b) else (c.path, c.error) ∷ broken (cs ++ b))
    ≡ (if h then broken cs else (c.path, c.error) ∷ broken cs) ++ broken b)
    [ true ↦ step | false ↦ ap (λ (fs : List Fault). (c.path, c.error) ∷ fs) step ]

told-append : (p : Fault → Bool) (m : Fault → Fault) (a b c d : List Check)
    → filter p (broken a) ≡ map m (broken c) → filter p (broken b) ≡ map m (broken d)
    → filter p (broken (a ++ b)) ≡ map m (broken (c ++ d))
told-append p m a b c d first second =
    ap (filter p) (broken-append a b)
    ∙ filter-append p (broken a) (broken b)
    ∙ ap₂ (λ (x y : List Fault). x ++ y) first second
    ∙ sym (map-append m (broken c) (broken d))
    ∙ ap (map m) (sym (broken-append c d))

-- what is kept of the faults of some rules are the faults of others, moved
record IsMoved (p : Fault → Bool) (m : Fault → Fault) (some others : Rules) : Type 0 where
  told :
      filter p (broken (checks_at [] some)) ≡ map m (broken (checks_at [] others))

both : {p : Fault → Bool} {m : Fault → Fault} {a b c d : Rules} → IsMoved p m a c
    → IsMoved p m b d → IsMoved p m (a & b) (c & d)
both {p = p} {m = m} {a = a} {b = b} {c = c} {d = d} first second = record {
  told =
      told-append p m (checks_at [] a) (checks_at [] b) (checks_at [] c) (checks_at [] d)
      first.told second.told;
}

-- a fault that is not told, and one that is
without : (p : Fault → Bool) (f : Fault) (fs : List Fault) → p f ≡ false
    → filter p (f ∷ fs) ≡ filter p fs
without p f fs is = ap (λ (b : Bool). if b then f ∷ filter p fs else filter p fs) is

with : (p : Fault → Bool) (f : Fault) (fs : List Fault) → p f ≡ true
    → filter p (f ∷ fs) ≡ f ∷ filter p fs
with p f fs is = ap (λ (b : Bool). if b then f ∷ filter p fs else filter p fs) is

-- ---- rules of other members

no_index : (name : List ℕ) (rest : List Place)
    → bytes_eq name (codes "extensionsRequired") ≡ false
    → required_index (named name ∷ rest) ≡ None
no_index name [] other = refl
no_index name (numbered i ∷ []) other = rw other refl
no_index name (numbered i ∷ step ∷ rest) other = refl
no_index name (named n ∷ rest) other = refl
no_index name (keyed n ∷ rest) other = refl

stays : (also required : List (List ℕ)) (places : List ℕ) (path : List Place) (rules : Rules)
    → ((rest : List Place) → required_index (path ++ rest) ≡ None)
    → filter (is_told also required) (broken (checks_at path rules))
    ≡ map (in_file places) (broken (checks_at path rules))
stays also required places path Nothing none = refl
stays also required places path (Condition true e) none = refl
stays also required places path (Condition false e) none =
    let here : required_index path ≡ None =
    ap required_index (sym (append-nil path)) ∙ none [] in
    let kept : is_told also required (path, e) ≡ true =
    ap (λ (o : Option ℕ).
    not (option_map_or (is_one_of also) (option_and_then (slice_get required) o) false)) here in
    let same : in_file places (path, e) ≡ (path, e) =
    ap (λ (o : Option ℕ).
    (option_map_or required_at (option_and_then (slice_get places) o) path, e)) here in
    with (is_told also required) (path, e) [] kept
    ∙ ap (λ (f : Fault). f ∷ []) (sym same)
stays also required places path (At s t) none =
    stays also required places (path ++ s ∷ []) t
    (λ rest. rw (append_assoc path (s ∷ []) rest) (none (s ∷ rest)))
stays also required places path (Both t u) none =
    told-append (is_told also required) (in_file places) (checks_at path t) (checks_at path u)
    (checks_at path t) (checks_at path u) (stays also required places path t none)
    (stays also required places path u none)

-- the rules are of members with other names
abbrev AreOthers : Rules → Type 0
AreOthers (Both a b) = AreOthers a × AreOthers b
AreOthers (At (named name) rules) = bytes_eq name (codes "extensionsRequired") ≡ false
AreOthers _ = ⊥

others : (also required : List (List ℕ)) (places : List ℕ) (rules : Rules) → AreOthers rules
    → IsMoved (is_told also required) (in_file places) rules rules
others also required places (Both a b) other =
    both (others also required places a other.0) (others also required places b other.1)
others also required places (At (named name) rules) other = record {
  told =
      stays also required places (named name ∷ []) rules (λ rest. no_index name rest other);
}
others also required places _ other = absurd other

-- ---- the rules of the names

abbrev is_known : List ℕ → Bool
is_known name = is_one_of supported_extensions name

-- the faults of names, of which the first has this index
told_from : (List ℕ → Bool) → ℕ → List (List ℕ) → List Fault
told_from known i [] = []
told_from known i (name ∷ names) =
    if known name then told_from known (i + 1) names
    else (required_at i, Unsupported) ∷ told_from known (i + 1) names

are_told : (i : ℕ) (names : List (String Global))
    → broken (checks_at (named (codes "extensionsRequired") ∷ [])
    (elements_rules supported_rules i names)) ≡ told_from is_known i (texts names)
unfolding told_from
are_told i [] = refl
are_told i (name ∷ names) =
    ap (λ (fs : List Fault). if is_known (string_bytes name) then fs
    else (required_at i, Unsupported) ∷ fs) (are_told (i + 1) names)

-- where the names stand that are left, the first of all having this index
abbrev places_from : List (List ℕ) → ℕ → List (List ℕ) → List ℕ
places_from also j names =
    map (λ p. p.0) (filter (λ p. not (is_one_of also p.1)) (enumerate_from j names))

-- of a list some elements stand from an index on
abbrev StandAt : {X : Type 0} → List X → ℕ → List X → Type 0
StandAt all i some = (k : ℕ) → slice_get all (i + k) ≡ slice_get some k

first_at : {X : Type 0} (all some : List X) (i : ℕ) (x : X) → StandAt all i (x ∷ some)
    → slice_get all i ≡ Some x
first_at all some i x at = ap (slice_get all) (sym (add-zero i)) ∙ at 0

rest_at : {X : Type 0} (all some : List X) (i : ℕ) (x : X) → StandAt all i (x ∷ some)
    → StandAt all (i + 1) some
rest_at all some i x at = λ k.
    let step : (i + 1) + k ≡ i + suc k = omega arith in
    ap (slice_get all) step ∙ at (suc k)

-- whether a fault of a name is told depends on whether the name is in the list
told_unless : (also all : List (List ℕ)) (j : ℕ) (name : List ℕ) (b : Bool)
    → slice_get all j ≡ Some name → is_one_of also name ≡ b
    → is_told also all (required_at j, Unsupported) ≡ not b
told_unless also all j name b here is =
    ap (λ (o : Option (List ℕ)). not (option_map_or (is_one_of also) o false)) here ∙ ap not is

-- a name of the list is left out, and so is its fault
one_taken : (known : List ℕ → Bool) (also all names : List (List ℕ)) (j : ℕ) (name : List ℕ)
    (faults : List Fault) → is_one_of also name ≡ true → slice_get all j ≡ Some name
    → filter (is_told also all) (told_from known (j + 1) names) ≡ faults
    → filter (is_told also all) (told_from known j (name ∷ names)) ≡ faults
unfolding told_from
one_taken known also all names j name faults is here rest =
    elim (known name) as (λ b. filter (is_told also all)
    (if b then told_from known (j + 1) names
    else (required_at j, Unsupported) ∷ told_from known (j + 1) names) ≡ faults) [
      | true ↦ rest
      | false ↦
          without (is_told also all) (required_at j, Unsupported) (told_from known (j + 1) names)
          (told_unless also all j name true here is)
          ∙ rest
    ]

-- any other is left, and its fault is moved
one_left : (known : List ℕ → Bool) (also all names left : List (List ℕ)) (places : List ℕ)
    (j i : ℕ) (name : List ℕ) → is_one_of also name ≡ false → slice_get all j ≡ Some name
    → slice_get places i ≡ Some j
    → filter (is_told also all) (told_from known (j + 1) names)
    ≡ map (in_file places) (told_from known (i + 1) left)
    → filter (is_told also all) (told_from known j (name ∷ names))
    ≡ map (in_file places) (told_from known i (name ∷ left))
unfolding told_from
one_left known also all names left places j i name is here there rest =
    let told : Fault = (required_at j, Unsupported) in
    let moved : in_file places (required_at i, Unsupported) ≡ told =
    ap (λ (o : Option ℕ). (option_map_or required_at o (required_at i), Unsupported)) there in
    elim (known name) as (λ b. filter (is_told also all)
    (if b then told_from known (j + 1) names
    else (required_at j, Unsupported) ∷ told_from known (j + 1) names)
    ≡ map (in_file places) (if b then told_from known (i + 1) left
    else (required_at i, Unsupported) ∷ told_from known (i + 1) left)) [
      | true ↦ rest
      | false ↦
          with (is_told also all) told (told_from known (j + 1) names)
          (told_unless also all j name false here is)
          ∙ ap₂ (λ (f : Fault) (fs : List Fault). f ∷ fs) (sym moved) rest
    ]

-- of these places the later ones are those of the names that are left
IsTold : (List ℕ → Bool) → List (List ℕ) → List (List ℕ) → List (List ℕ) → List ℕ → ℕ → ℕ
    → Type 0
IsTold known also all names places j i =
    StandAt places i (places_from also j names)
    → filter (is_told also all) (told_from known j names)
    ≡ map (in_file places) (told_from known i (left_of also names))

one_more : (known : List ℕ → Bool) (also all names : List (List ℕ)) (places : List ℕ) (j i : ℕ)
    (name : List ℕ) (b : Bool) → is_one_of also name ≡ b → slice_get all j ≡ Some name
    → ((k : ℕ) → IsTold known also all names places (j + 1) k)
    → IsTold known also all (name ∷ names) places j i
unfolding IsTold
one_more known also all names places j i name true is here rest from =
    let left = left_of also names in
    rw is (one_taken known also all names j name (map (in_file places) (told_from known i left)) is
    here (rest i (rw is at from)))
one_more known also all names places j i name false is here rest from =
    let later = places_from also (j + 1) names in
    let at : StandAt places i (j ∷ later) = rw is at from in
    rw is (one_left known also all names (left_of also names) places j i name is here
    (first_at places later i j at) (rest (i + 1) (rest_at places later i j at)))

names_told : (known : List ℕ → Bool) (also all : List (List ℕ)) (places : List ℕ)
    (names : List (List ℕ)) (j i : ℕ) → StandAt all j names
    → IsTold known also all names places j i
unfolding IsTold told_from
names_told known also all places [] j i at = λ from. refl
names_told known also all places (name ∷ names) j i at =
    let later = rest_at all names j name at in
    one_more known also all names places j i name (is_one_of also name) refl
    (first_at all names j name at)
    (λ k. names_told known also all places names (j + 1) k later)

-- the rules of all names and of those that are left
of_names : (also : List (List ℕ)) (all left : List (String Global))
    → texts left ≡ left_of also (texts all)
    → IsMoved (is_told also (texts all)) (in_file (places_left also (texts all)))
    (member (codes "extensionsRequired") (required_rules all))
    (member (codes "extensionsRequired") (required_rules left))
unfolding IsTold
of_names also all left is = record {
  told =
      ap (filter (is_told also (texts all))) (are_told 0 all)
      ∙ names_told is_known also (texts all) (places_left also (texts all)) (texts all) 0 0
      (λ k. ap (slice_get (texts all)) (zero-add k))
      (λ k. ap (slice_get (places_left also (texts all))) (zero-add k))
      ∙ ap (λ (names : List (List ℕ)). map (in_file (places_left also (texts all)))
      (told_from is_known 0 names)) (sym is)
      ∙ ap (map (in_file (places_left also (texts all)))) (sym (are_told 0 left));
}

-- ---- the whole

of_rules : (also : List (List ℕ)) (r : Root) (left : Vec (String Global) Global)
    → texts left.items ≡ left_of also (required_of r)
    → IsMoved (is_told also (required_of r)) (in_file (places_left also (required_of r)))
    (root_rules (counts_of r) r)
    (root_rules (counts_of r) (record r { extensions_required = left }))
of_rules also r left is =
    let c = counts_of r in
    let same = others also (required_of r) (places_left also (required_of r)) in
    both (same (first_members_rules c r)
    (refl, (refl, (refl, (refl, (refl, (refl, (refl, (refl, (refl, refl))))))))))
    (both (same (member (codes "scene") (optional_rules (index_rules c.scenes) r.scene)) refl)
    (both (same (member (codes "scenes") (list_rules (scene_rules c) r.scenes.items)) refl)
    (both (same (member (codes "skins") (list_rules (skin_rules c) r.skins.items)) refl)
    (both (same (member (codes "textures") (list_rules (texture_rules c) r.textures.items)) refl)
    (both (of_names also r.extensions_required.items left.items is)
    (same (member (codes "extensions") (optional_rules (root_extensions_rules c) r.extensions))
    refl))))))

pub faults_in_file : (also : List (List ℕ)) (r s : Root) → IsBesides also r s
    → faults_besides also r ≡ map (in_file (places_left also (required_of r))) (Faults s)
unfolding Faults
faults_in_file also r s besides =
    subst (λ (x : Root). faults_besides also r
    ≡ map (in_file (places_left also (required_of r))) (Faults x)) (sym besides.others)
    (of_rules also r s.extensions_required besides.names).told
