-- The attributes that are left of an object: by a loop over its names, and by the definition.
use Rattle.std.proofs.Common.{◌≡◌, ℕ, List, [], ◌∷◌, ◌++◌, Bool, true, false, ◌||◌}
use Rattle.std.proofs.Common.{not, map, string_bytes, refl, sym, ap, ◌∙◌, Some}
use Rattle.std.proofs.Common.{if◌then◌else◌, true≢false, bytes_eq}
use Rattle.std.specs.List.{list_any}
use Rattle.std.specs.Map.{keys_of}
use Rattle.std.proofs.Math.Bool.{or-false, or-true}
use Rattle.std.proofs.lemmas.List.{append_assoc}
use Rattle.std.proofs.lemmas.List.Folds.{list_any-append}
use Rattle.std.proofs.lemmas.Slice.Eq.{bytes_eq-Decides}
use Rattle.serde_json.specs.Data.{Data, null, boolean, number, string, array, object, Members}
use Rattle.serde_json.specs.Data.{no_members, member}
use Rattle.serde_json.specs.Find.{as_object}
use Rattle.serde_json.specs.View.{members_view}
use Rattle.serde_json.proofs.Views.{Entry}
use Rattle.gltf_edit.specs.Embedded.{without, without_member}
use Rattle.gltf_json_geometry.specs.Attributes.{member_names}
use Rattle.gltf_mend.specs.Attributes.{is_attribute, named, with_attributes}

-- whether a name is one of these
abbrev pub is_in : List (List ℕ) → List ℕ → Bool
is_in names name = list_any (λ k. bytes_eq k name) names

-- the members that stay once these names were looked at
abbrev pub staying : List (List ℕ) → Members → Members
staying names no_members = no_members
staying names (member k d ms) =
    if is_attribute k || not (is_in names k) then member k d (staying names ms)
    else staying names ms

-- what is left of a value then
abbrev pub left_by : List (List ℕ) → Data → Data
left_by names null = null
left_by names (boolean b) = boolean b
left_by names (number n) = number n
left_by names (string s) = string s
left_by names (array ds) = array ds
left_by names (object ms) = object (staying names ms)

-- ---- one name more

more_names : (names : List (List ℕ)) (n k : List ℕ)
    → is_in (names ++ n ∷ []) k ≡ (is_in names k || bytes_eq n k)
more_names names n k =
    list_any-append (λ m. bytes_eq m k) names (n ∷ [])
    ∙ ap (λ b. is_in names k || b) (or-false (bytes_eq n k))

-- one that no attribute has
head_without : (n k : List ℕ) (d : Data) (xs ys : Members) (a i e : Bool) → bytes_eq n k ≡ e
    → (e ≡ true → a ≡ false) → without n xs ≡ ys
    → without n (if a || not i then member k d xs else xs)
    ≡ (if a || not (i || e) then member k d ys else ys)
head_without n k d xs ys true i true same apart is = absurd (true≢false (apart refl))
head_without n k d xs ys true i false same apart is = rw same (ap (member k d) is)
head_without n k d xs ys false true e same apart is = is
head_without n k d xs ys false false true same apart is = rw same is
head_without n k d xs ys false false false same apart is = rw same (ap (member k d) is)

without_more : (names : List (List ℕ)) (n : List ℕ) → is_attribute n ≡ false → (ms : Members)
    → without n (staying names ms) ≡ staying (names ++ n ∷ []) ms
without_more names n none no_members = refl
without_more names n none (member k d ms) =
    rw (more_names names n k) (head_without n k d (staying names ms)
    (staying (names ++ n ∷ []) ms) (is_attribute k) (is_in names k) (bytes_eq n k) refl
    (λ same. ap is_attribute (sym ((bytes_eq-Decides n k).0 same)) ∙ none)
    (without_more names n none ms))

-- one that an attribute has
head_same : (k : List ℕ) (d : Data) (xs ys : Members) (a i e : Bool) → (e ≡ true → a ≡ true)
    → xs ≡ ys
    → (if a || not i then member k d xs else xs) ≡ (if a || not (i || e) then member k d ys else ys)
head_same k d xs ys true i e alike is = ap (member k d) is
head_same k d xs ys false i true alike is = absurd (true≢false (sym (alike refl)))
head_same k d xs ys false true false alike is = is
head_same k d xs ys false false false alike is = ap (member k d) is

same_more : (names : List (List ℕ)) (n : List ℕ) → is_attribute n ≡ true → (ms : Members)
    → staying names ms ≡ staying (names ++ n ∷ []) ms
same_more names n known no_members = refl
same_more names n known (member k d ms) =
    rw (more_names names n k) (head_same k d (staying names ms) (staying (names ++ n ∷ []) ms)
    (is_attribute k) (is_in names k) (bytes_eq n k)
    (λ same. ap is_attribute (sym ((bytes_eq-Decides n k).0 same)) ∙ known)
    (same_more names n known ms))

-- ---- all of its names

last_head : (k : List ℕ) (d : Data) (xs ys : Members) (a i : Bool) → i ≡ true → xs ≡ ys
    → (if a || not i then member k d xs else xs) ≡ (if a then member k d ys else ys)
last_head k d xs ys true i there is = ap (member k d) is
last_head k d xs ys false true there is = is
last_head k d xs ys false false there is = absurd (true≢false (sym there))

is_there : (before rest : List (List ℕ)) (k : List ℕ) → is_in (before ++ k ∷ rest) k ≡ true
is_there before rest k =
    list_any-append (λ m. bytes_eq m k) before (k ∷ rest)
    ∙ ap (λ b. is_in before k || (b || is_in rest k)) ((bytes_eq-Decides k k).1 refl)
    ∙ or-true (is_in before k)

staying_all : (before : List (List ℕ)) (ms : Members)
    → staying (before ++ member_names ms) ms ≡ named ms
staying_all before no_members = refl
staying_all before (member k d ms) =
    last_head k d (staying (before ++ k ∷ member_names ms) ms) (named ms) (is_attribute k)
    (is_in (before ++ k ∷ member_names ms) k) (is_there before (member_names ms) k)
    (ap (λ names. staying names ms) (sym (append_assoc before (k ∷ []) (member_names ms)))
    ∙ staying_all (before ++ k ∷ []) ms)

head_none : (k : List ℕ) (d : Data) (xs ys : Members) (a : Bool) → xs ≡ ys
    → member k d xs ≡ (if a || not false then member k d ys else ys)
head_none k d xs ys true is = ap (member k d) is
head_none k d xs ys false is = ap (member k d) is

staying_none : (ms : Members) → ms ≡ staying [] ms
staying_none no_members = refl
staying_none (member k d ms) =
    head_none k d ms (staying [] ms) (is_attribute k) (staying_none ms)

-- ---- of a value

pub left_first : (d : Data) → d ≡ left_by [] d
left_first null = refl
left_first (boolean b) = refl
left_first (number n) = refl
left_first (string s) = refl
left_first (array ds) = refl
left_first (object ms) = ap object (staying_none ms)

pub left_without : (names : List (List ℕ)) (n : List ℕ) (d : Data) → is_attribute n ≡ false
    → without_member n (left_by names d) ≡ left_by (names ++ n ∷ []) d
left_without names n null none = refl
left_without names n (boolean b) none = refl
left_without names n (number m) none = refl
left_without names n (string s) none = refl
left_without names n (array ds) none = refl
left_without names n (object ms) none = ap object (without_more names n none ms)

pub left_same : (names : List (List ℕ)) (n : List ℕ) (d : Data) → is_attribute n ≡ true
    → left_by names d ≡ left_by (names ++ n ∷ []) d
left_same names n null known = refl
left_same names n (boolean b) known = refl
left_same names n (number m) known = refl
left_same names n (string s) known = refl
left_same names n (array ds) known = refl
left_same names n (object ms) known = ap object (same_more names n known ms)

names_view : (es : List Entry) → member_names (members_view es) ≡ map string_bytes (keys_of es)
names_view [] = refl
names_view (e ∷ es) = ap (λ r. string_bytes e.0 ∷ r) (names_view es)

-- all names of an object were looked at
pub left_last : (d : Data) (es : List Entry) → as_object d ≡ Some (members_view es)
    → left_by (map string_bytes (keys_of es)) d ≡ with_attributes d
left_last null es is = refl
left_last (boolean b) es is = refl
left_last (number n) es is = refl
left_last (string s) es is = refl
left_last (array ds) es is = refl
left_last (object ms) es is =
    let same : ms ≡ members_view es = cc is in
    let names : map string_bytes (keys_of es) ≡ member_names ms =
    sym (names_view es) ∙ ap member_names (sym same) in
    rw names (ap object (staying_all [] ms))
