-- The attributes of an object, read name by name: for the contract of `Attributes::from_value`. The
-- invariant of its loop is `ReadSoFar`: the attributes have what the object has at the names so
-- far. It holds at no name (`read_none`), and a turn adds a name that is absent (`read_absent`) or
-- was put (`read_put`: one of a known semantic, or an unknown one). At all names it is the contract
-- (`read_all`). What is known splits on whether the new name is that of the semantic (`kept`,
-- `put_at`). `no_object` and `no_index` are the contract's errors.
use Rattle.std.proofs.Common.{◌≡◌, ◌∷◌, ◌++◌, ◌||◌, ℕ, List, [], Bool, true, false, Option, Some}
use Rattle.std.proofs.Common.{None, MatchOption, IsSome, IsNone, option_and_then, string_bytes}
use Rattle.std.proofs.Common.{bytes_eq, if◌then◌else◌, cond, map, is_some, refl, sym, ap, ◌∙◌, inl}
use Rattle.std.proofs.Common.{inr, ⊎_elim, true≢false}
use Rattle.std.specs.Prelude.{⊤}
use Rattle.std.specs.BTreeMap.{get, IsOrdered}
use Rattle.std.specs.Map.{keys_of}
use Rattle.std.specs.Cmp.{Equal-is}
use Rattle.std.specs.Ordering.{is_eq}
use Rattle.std.proofs.lemmas.List.Folds.{list_any-append}
use Rattle.std.proofs.lemmas.Map.Text.{is_eq-slice_cmp}
use Rattle.std.proofs.lemmas.Slice.Eq.{bytes_eq-Decides}
use Rattle.serde_json.specs.Data.{Data, null, boolean, number, string, array, object, Members}
use Rattle.serde_json.specs.Find.{as_object}
use Rattle.serde_json.specs.View.{members_view}
use Rattle.serde_json.proofs.Views.{Entry}
use Rattle.gltf_json_record.specs.Fault.{Tells, IsUnder}
use Rattle.gltf_json_record.specs.Kind.{IsWrongKind}
use Rattle.gltf_json_record.specs.Member.{member_at, is_one_of}
use Rattle.gltf_json_record.specs.Place.{keyed}
use Rattle.gltf_json_record.specs.Scalars.{as_n32, index}
use Rattle.gltf_json_record.specs.declared.error.Error.{Error}
use Rattle.gltf_json_record.specs.declared.error.Error.TheVariants.{Text, Record, Memory}
use Rattle.gltf_json_geometry.specs.Attributes.{attribute_at, IsUnknownAt, AreUnknown, member_names}
use Rattle.gltf_json_geometry.specs.Attributes.{names_of, AreAttributes, AttributeFault}
use Rattle.gltf_json_geometry.specs.AttributeLaws.{fit_everywhere, absent_at}
use Rattle.gltf_json_geometry.specs.AttributeSteps.{IsKnownPut, IsUnknownPut, IsPut}
use Rattle.gltf_json_geometry.specs.NameLaws.{same_key, same_name, same_numbered, Equal-same_key}
use Rattle.gltf_json_geometry.specs.Semantics.{semantic_name, is_numbered, Names, order_key}
use Rattle.gltf_json_geometry.specs.Semantics.{semantic_cmp}
use Rattle.gltf_json_geometry.specs.declared.attributes.Attributes.{Attributes}
use Rattle.gltf_json_geometry.specs.declared.semantic.Semantic.{Semantic}

-- a has the attributes of d at these names
pub record ReadSoFar (d : Data) (names : List (List ℕ)) (a : Attributes) : Type 0 where
  pub indices : (q : List ℕ) → is_one_of names q ≡ true → MatchOption (member_at q d) ⊤ index.fits
  pub known : (s : Semantic) → get semantic_cmp a.known s
      ≡ (if is_one_of names (semantic_name s) then attribute_at d s else None)
  pub ordered : IsOrdered semantic_cmp a.known
  pub unknown : AreUnknown d names (map string_bytes a.unknown.items)

-- ---- one more name

one_of_push : (names : List (List ℕ)) (n q : List ℕ)
    → is_one_of (names ++ n ∷ []) q ≡ (is_one_of names q || (bytes_eq q n || false))
one_of_push names n q = list_any-append (λ k. bytes_eq q k) names (n ∷ [])

-- a name that gives none changes nothing
same_if : (x b : Bool) (v : Option ℕ) → (b ≡ true → v ≡ None)
    → (if x then v else None) ≡ (if (x || (b || false)) then v else None)
same_if true b v none = refl
same_if false true v none = sym (none refl)
same_if false false v none = refl

kept : (d : Data) (names : List (List ℕ)) (n : List ℕ) (s : Semantic) (o : Option ℕ)
    → (bytes_eq (semantic_name s) n ≡ true → attribute_at d s ≡ None)
    → o ≡ (if is_one_of names (semantic_name s) then attribute_at d s else None)
    → o ≡ (if is_one_of (names ++ n ∷ []) (semantic_name s) then attribute_at d s else None)
kept d names n s o none is =
    rw (one_of_push names n (semantic_name s))
    (is ∙ same_if (is_one_of names (semantic_name s)) (bytes_eq (semantic_name s) n)
    (attribute_at d s) none)

if_numbered : (b : Bool) (o : Option ℕ) → (b ≡ true → o ≡ None) → (if b then o else None) ≡ None
if_numbered true o none = none refl
if_numbered false o none = refl

-- what holds at the names so far and at one more
indices_push : (d : Data) (names : List (List ℕ)) (n q : List ℕ) (x b : Bool) → bytes_eq q n ≡ b
    → is_one_of names q ≡ x → (x || (b || false)) ≡ true
    → MatchOption (member_at n d) ⊤ index.fits
    → (is_one_of names q ≡ true → MatchOption (member_at q d) ⊤ index.fits)
    → MatchOption (member_at q d) ⊤ index.fits
indices_push d names n q true b same is all here rest = rest is
indices_push d names n q false true same is all here rest = rw ((bytes_eq-Decides q n).0 same) here
indices_push d names n q false false same is all here rest = absurd (true≢false (sym all))

unknown_more : (d : Data) (names us : List (List ℕ)) (n : List ℕ) → IsUnknownAt d n
    → AreUnknown d names us → AreUnknown d (names ++ n ∷ []) (us ++ n ∷ [])
unknown_more d [] us n is none = inl (is, ([], rw none refl, refl))
unknown_more d (m ∷ names) us n is u =
    ⊎_elim (λ v. inl (v.0, (v.1.0 ++ n ∷ [], rw v.1.1 refl, unknown_more d names v.1.0 n is v.1.2)))
    (λ v. inr (v.0, unknown_more d names us n is v.1)) u

unknown_same : (d : Data) (names us : List (List ℕ)) (n : List ℕ) → (IsUnknownAt d n → ⊥)
    → AreUnknown d names us → AreUnknown d (names ++ n ∷ []) us
unknown_same d [] us n not none = inr (not, none)
unknown_same d (m ∷ names) us n not u =
    ⊎_elim (λ v. inl (v.0, (v.1.0, v.1.1, unknown_same d names v.1.0 n not v.1.2)))
    (λ v. inr (v.0, unknown_same d names us n not v.1)) u

-- ---- the steps

pub read_none : (d : Data) (a : Attributes) → a.known.entries ≡ [] → IsOrdered semantic_cmp a.known
    → a.unknown.items ≡ [] → ReadSoFar d [] a
read_none d a known ordered unknown = record {
  indices = λ q is. absurd (true≢false (sym is));
  known = λ s. rw known refl;
  ordered = ordered;
  unknown = rw unknown refl;
}

pub read_absent : (d : Data) (names : List (List ℕ)) (n : List ℕ) (a : Attributes)
    → member_at n d ≡ None → ReadSoFar d names a → ReadSoFar d (names ++ n ∷ []) a
read_absent d names n a absent before = record {
  indices = λ q is. indices_push d names n q (is_one_of names q) (bytes_eq q n) refl refl
      (sym (one_of_push names n q) ∙ is) (rw absent tt) (before.indices q);
  known = λ s. kept d names n s (get semantic_cmp a.known s)
      (λ same. if_numbered (is_numbered s) (option_and_then as_n32 (member_at (semantic_name s) d))
      (λ is. ap (option_and_then as_n32)
      (ap (λ q. member_at q d) ((bytes_eq-Decides (semantic_name s) n).0 same) ∙ absent)))
      (before.known s);
  ordered = before.ordered;
  unknown = unknown_same d names (map string_bytes a.unknown.items) n
      (λ is. true≢false (sym is.0 ∙ ap is_some absent)) before.unknown;
}

read_unknown : (d e : Data) (names : List (List ℕ)) (n : List ℕ) (a b : Attributes)
    → member_at n d ≡ Some e → index.fits e → IsUnknownPut n a b → ReadSoFar d names a
    → ReadSoFar d (names ++ n ∷ []) b
read_unknown d e names n a b there fits put before = record {
  indices = λ q is. indices_push d names n q (is_one_of names q) (bytes_eq q n) refl refl
      (sym (one_of_push names n q) ∙ is) (rw there fits) (before.indices q);
  known = λ s. rw put.known (kept d names n s (get semantic_cmp a.known s)
      (λ same. if_numbered (is_numbered s) (option_and_then as_n32 (member_at (semantic_name s) d))
      (λ is. absurd (put.nameless s (is, (bytes_eq-Decides (semantic_name s) n).0 same))))
      (before.known s));
  ordered = rw put.known before.ordered;
  unknown = rw put.unknown (unknown_more d names (map string_bytes a.unknown.items) n
      (ap is_some there, put.nameless) before.unknown);
}

or_true : (x : Bool) → (x || (true || false)) ≡ true
or_true true = refl
or_true false = refl

-- the attribute that was put, and each other one
same_place : (s t : Semantic) → order_key s ≡ order_key t → is_eq (semantic_cmp s t) ≡ true
same_place s t same = is_eq-slice_cmp (order_key s) (order_key t)
    ∙ (bytes_eq-Decides (order_key s) (order_key t)).1 same

put_at : (d e : Data) (names : List (List ℕ)) (n : List ℕ) (i : ℕ) (t s : Semantic) (b : Bool)
    (old new : Option ℕ) → member_at n d ≡ Some e → as_n32 e ≡ Some i → Names t n
    → is_eq (semantic_cmp t s) ≡ b → new ≡ cond b (Some i) old
    → old ≡ (if is_one_of names (semantic_name s) then attribute_at d s else None)
    → new ≡ (if is_one_of (names ++ n ∷ []) (semantic_name s) then attribute_at d s else None)
put_at d e names n i t s true old new there reads named same is before =
    let key : order_key t ≡ order_key s =
    Equal-same_key t s ((Equal-is (semantic_cmp t s)).0 same) in
    let name : semantic_name s ≡ n = sym (same_name t s key) ∙ named.1 in
    let numbered : is_numbered s ≡ true = sym (same_numbered t s key) ∙ named.0 in
    let found : attribute_at d s ≡ Some i = rw (numbered, name, there) reads in
    let one : is_one_of (names ++ n ∷ []) (semantic_name s) ≡ true =
    rw (one_of_push names n (semantic_name s), (bytes_eq-Decides (semantic_name s) n).1 name)
    (or_true (is_one_of names (semantic_name s))) in
    rw one (is ∙ sym found)
put_at d e names n i t s false old new there reads named other is before =
    is ∙ kept d names n s old
    (λ same. if_numbered (is_numbered s) (option_and_then as_n32 (member_at (semantic_name s) d))
    (λ numbered. absurd (true≢false (sym
    (same_place t s (same_key t s named.0 numbered
    (named.1 ∙ sym ((bytes_eq-Decides (semantic_name s) n).0 same)))) ∙ other))))
    before

read_known : (d e : Data) (names : List (List ℕ)) (n : List ℕ) (i : ℕ) (a b : Attributes)
    → member_at n d ≡ Some e → index.is e i → IsKnownPut n i a b → ReadSoFar d names a
    → ReadSoFar d (names ++ n ∷ []) b
read_known d e names n i a b there reads put before = record {
  indices = λ q is. indices_push d names n q (is_one_of names q) (bytes_eq q n) refl refl
      (sym (one_of_push names n q) ∙ is) (rw there (index.needs e i reads)) (before.indices q);
  known = λ s. put_at d e names n i put.semantic s (is_eq (semantic_cmp put.semantic s))
      (get semantic_cmp a.known s) (get semantic_cmp b.known s) there reads put.named refl
      (put.known.0 s) (before.known s);
  ordered = put.ordered;
  unknown = rw put.unknown (unknown_same d names (map string_bytes a.unknown.items) n
      (λ is. is.1 put.semantic put.named) before.unknown);
}

pub read_put : (d e : Data) (names : List (List ℕ)) (n : List ℕ) (i : ℕ) (a b : Attributes)
    → member_at n d ≡ Some e → index.is e i → IsPut n i a b → ReadSoFar d names a
    → ReadSoFar d (names ++ n ∷ []) b
read_put d e names n i a b there reads put before =
    ⊎_elim (λ known. read_known d e names n i a b there reads known before)
    (λ unknown. read_unknown d e names n a b there (index.needs e i reads) unknown before) put

-- ---- all names

at_end : (d : Data) (s : Semantic) (b : Bool) → is_one_of (names_of d) (semantic_name s) ≡ b
    → (if b then attribute_at d s else None) ≡ attribute_at d s
at_end d s true is = refl
at_end d s false is = sym (if_numbered (is_numbered s)
    (option_and_then as_n32 (member_at (semantic_name s) d))
    (λ numbered. ap (option_and_then as_n32) (absent_at d (semantic_name s) is)))

pub read_all : (d : Data) (a : Attributes) → IsSome (as_object d) → ReadSoFar d (names_of d) a
    → AreAttributes d a
read_all d a is all = record {
  fit = record { is_object = is; indices = fit_everywhere d all.indices };
  known = λ s. all.known s ∙ at_end d s (is_one_of (names_of d) (semantic_name s)) refl;
  ordered = all.ordered;
  unknown = all.unknown;
}

names_view : (es : List Entry) → member_names (members_view es) ≡ map string_bytes (keys_of es)
names_view [] = refl
names_view (e ∷ es) = ap (λ r. string_bytes e.0 ∷ r) (names_view es)

names_object : (d : Data) (ms : Members) → as_object d ≡ Some ms → names_of d ≡ member_names ms
names_object null ms is = absurd (cc is)
names_object (boolean b) ms is = absurd (cc is)
names_object (number n) ms is = absurd (cc is)
names_object (string s) ms is = absurd (cc is)
names_object (array ds) ms is = absurd (cc is)
names_object (object ns) ms is = let same : ns ≡ ms = cc is in ap member_names same

-- the names of an object are those of the map that holds its members
pub names_map : (d : Data) (es : List Entry) → as_object d ≡ Some (members_view es)
    → names_of d ≡ map string_bytes (keys_of es)
names_map d es is = names_object d (members_view es) is ∙ names_view es

-- ---- faults

pub no_object : (d : Data) (e : Error) → IsNone (as_object d) → Tells IsWrongKind e
    → Tells (AttributeFault d) e
no_object d (Text t) none told = told
no_object d (Record p f) none told = inl (none, told)
no_object d Memory none told = tt

pub no_index : (d e : Data) (name : List ℕ) (inner outer : Error) → member_at name d ≡ Some e
    → Tells (index.fault e) inner → IsUnder (keyed name) inner outer
    → Tells (AttributeFault d) outer
no_index d e name (Text t) outer there told under = absurd told
no_index d e name Memory outer there told under = rw under tt
no_index d e name (Record p f) Memory there told under = tt
no_index d e name (Record p f) (Text t) there told under = under
no_index d e name (Record p f) (Record q g) there told under =
    inr (name, rw there (p, under.0, rw under.1 told))
