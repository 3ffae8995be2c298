-- The laws of the kind of attributes.
use Rattle.std.specs.Prelude.{◌≡◌, ◌⊎◌, ◌∷◌, ◌||◌, ℕ, List, [], Bool, true, false, Option, Some}
use Rattle.std.specs.Prelude.{None, MatchOption, IsSome, option_and_then, string_bytes, bytes_eq}
use Rattle.std.specs.Prelude.{map, ⊤}
use Rattle.std.specs.Cmp.Lexicographic.{slice_cmp}
use Rattle.std.specs.Ordering.{nat_cmp, is_eq, match_ordering}
use Rattle.std.specs.declared.cmp.Ordering.{Ordering}
use Rattle.std.specs.declared.cmp.Ordering.TheVariants.{Less, Equal, Greater}
use Rattle.std.proofs.Common.{refl, sym, ap, ◌∙◌, inl, inr, ⊎_elim, true≢false}
use Rattle.std.proofs.lemmas.Map.Lookups.{map_keys, btree_map_read_from_get}
use Rattle.std.proofs.lemmas.Map.Text.{is_eq-slice_cmp}
use Rattle.std.proofs.lemmas.Slice.Eq.{bytes_eq-Decides}
use Rattle.serde_json.specs.Data.{Data, null, boolean, number, string, array, object, Members}
use Rattle.serde_json.specs.Data.{no_members, member}
use Rattle.serde_json.specs.Find.{as_object, get_member}
use Rattle.gltf_json_record.specs.Kind.{Within}
use Rattle.gltf_json_record.specs.Member.{member_at, unless_null, is_one_of}
use Rattle.gltf_json_record.specs.Place.{Place, keyed}
use Rattle.gltf_json_record.specs.Scalars.{index}
use Rattle.gltf_json_record.specs.declared.error.RecordFault.{RecordFault}
use Rattle.gltf_json_record.specs.declared.error.RecordFault.TheVariants.{WrongKind}
use Rattle.gltf_json_geometry.specs.Attributes.{AreUnknown, member_names, names_of, FitAttributes}
use Rattle.gltf_json_geometry.specs.Attributes.{AreAttributes, AttributeFault}
use Rattle.gltf_json_geometry.specs.NameLaws.{same_name, Equal-same_key, order_total}
use Rattle.gltf_json_geometry.specs.Semantics.{semantic_name}
use Rattle.gltf_json_geometry.specs.declared.attributes.Attributes.{Attributes}

-- ---- an object has nothing but at its names

passed : (r : Ordering) (x y : Option Data) → is_eq r ≡ false → match_ordering r x y x ≡ x
passed Less x y other = refl
passed Equal x y other = absurd (true≢false other)
passed Greater x y other = refl

left_false : (a b : Bool) → (a || b) ≡ false → a ≡ false
left_false false b h = refl
left_false true b h = absurd (true≢false h)

right_false : (a b : Bool) → (a || b) ≡ false → b ≡ false
right_false false b h = h
right_false true b h = absurd (true≢false h)

absent_member : (q : List ℕ) (ms : Members) → is_one_of (member_names ms) q ≡ false
    → get_member q ms ≡ None
absent_member q no_members none = refl
absent_member q (member name e ms) none =
    passed (slice_cmp nat_cmp q name) (get_member q ms) (Some e)
    (is_eq-slice_cmp q name ∙ left_false (bytes_eq q name) (is_one_of (member_names ms) q) none)
    ∙ absent_member q ms (right_false (bytes_eq q name) (is_one_of (member_names ms) q) none)

pub absent_at : (d : Data) (q : List ℕ) → is_one_of (names_of d) q ≡ false → member_at q d ≡ None
absent_at null q none = refl
absent_at (boolean b) q none = refl
absent_at (number n) q none = refl
absent_at (string s) q none = refl
absent_at (array ds) q none = refl
absent_at (object ms) q none = ap (option_and_then unless_null) (absent_member q ms none)

-- ---- what an object has at each of some names

-- what holds of one name and of others holds of all
pub one_more : (P : List ℕ → Type 0) (q n : List ℕ) (b r : Bool) → bytes_eq q n ≡ b
    → (b || r) ≡ true → P n → (r ≡ true → P q) → P q
one_more P q n true r same is here rest = rw ((bytes_eq-Decides q n).0 same) here
one_more P q n false r same is here rest = rest is

fit_or_fault : (o : Option Data) → MatchOption o ⊤ index.fits
    ⊎ ((q : List Place) × (f : RecordFault) × MatchOption o ⊥ (λ e. index.fault e q f))
fit_or_fault None = inl tt
fit_or_fault (Some e) = index.either e

all_fit_or_fault : (d : Data) (names : List (List ℕ))
    → ((q : List ℕ) → is_one_of names q ≡ true → MatchOption (member_at q d) ⊤ index.fits)
    ⊎ ((name : List ℕ) × (q : List Place) × (f : RecordFault)
    × MatchOption (member_at name d) ⊥ (λ e. index.fault e q f))
all_fit_or_fault d [] = inl (λ q is. absurd (true≢false (sym is)))
all_fit_or_fault d (n ∷ names) =
    ⊎_elim
    (λ here. ⊎_elim (λ rest. inl (λ q is. one_more
    (λ m. MatchOption (member_at m d) ⊤ index.fits) q n (bytes_eq q n)
    (is_one_of names q) refl is here (rest q))) inr (all_fit_or_fault d names))
    (λ at. inr (n, at.0, at.1, at.2)) (fit_or_fault (member_at n d))

fit_at : (d : Data) (q : List ℕ) (b : Bool) → is_one_of (names_of d) q ≡ b
    → (b ≡ true → MatchOption (member_at q d) ⊤ index.fits)
    → MatchOption (member_at q d) ⊤ index.fits
fit_at d q true is fits = fits refl
fit_at d q false is fits = rw (absent_at d q is) tt

-- what holds at each name of an object holds at every name
pub fit_everywhere : (d : Data) → ((q : List ℕ) → is_one_of (names_of d) q ≡ true
    → MatchOption (member_at q d) ⊤ index.fits) → (q : List ℕ)
    → MatchOption (member_at q d) ⊤ index.fits
fit_everywhere d fits q = fit_at d q (is_one_of (names_of d) q) refl (fits q)

within : (o : Option Data) (s : Place) (q : List Place) (f : RecordFault)
    → MatchOption o ⊥ (λ e. index.fault e q f)
    → MatchOption o ⊥ (λ e. Within s (index.fault e) (s ∷ q) f)
within None s q f at = at
within (Some e) s q f at = (q, refl, at)

not_both : (o : Option Data) (s : Place) (p : List Place) (f : RecordFault)
    → MatchOption o ⊤ index.fits → MatchOption o ⊥ (λ e. Within s (index.fault e) p f) → ⊥
not_both None s p f fits at = at
not_both (Some e) s p f fits at = index.apart e at.0 f fits at.2

-- ---- the laws

pub attributes_apart : (d : Data) (p : List Place) (f : RecordFault) → FitAttributes d
    → AttributeFault d p f → ⊥
attributes_apart d p f fits =
    ⊎_elim (λ none. true≢false (sym fits.is_object ∙ none.0))
    (λ at. not_both (member_at at.0 d) (keyed at.0) p f (fits.indices at.0) at.1)

object_either : (d : Data) → IsSome (as_object d) → FitAttributes d
    ⊎ ((p : List Place) × (f : RecordFault) × AttributeFault d p f)
object_either d is =
    ⊎_elim (λ fits. inl (record { is_object = is; indices = fit_everywhere d fits }))
    (λ at. inr (
      keyed at.0 ∷ at.1,
      at.2,
      inr (at.0, within (member_at at.0 d) (keyed at.0) at.1 at.2 at.3),
    ))
    (all_fit_or_fault d (names_of d))

pub attributes_either : (d : Data) → FitAttributes d
    ⊎ ((p : List Place) × (f : RecordFault) × AttributeFault d p f)
attributes_either null = inr ([], WrongKind, inl (refl, (refl, refl)))
attributes_either (boolean b) = inr ([], WrongKind, inl (refl, (refl, refl)))
attributes_either (number n) = inr ([], WrongKind, inl (refl, (refl, refl)))
attributes_either (string s) = inr ([], WrongKind, inl (refl, (refl, refl)))
attributes_either (array ds) = inr ([], WrongKind, inl (refl, (refl, refl)))
attributes_either (object ms) = object_either (object ms) refl

unknown_alike : (d : Data) (names us vs : List (List ℕ)) → AreUnknown d names us
    → AreUnknown d names vs → us ≡ vs
unknown_alike d [] us vs x y = x ∙ sym y
unknown_alike d (n ∷ names) us vs x y =
    ⊎_elim
    (λ u. ⊎_elim (λ v. u.1.1 ∙ ap (λ r. n ∷ r) (unknown_alike d names u.1.0 v.1.0 u.1.2 v.1.2)
    ∙ sym v.1.1) (λ v. absurd (v.0 u.0)) y)
    (λ u. ⊎_elim (λ v. absurd (u.0 v.0)) (λ v. unknown_alike d names us vs u.1 v.1) y) x

pub known_alike : (d : Data) (a b : Attributes) → AreAttributes d a → AreAttributes d b
    → map_keys semantic_name a.known.entries ≡ map_keys semantic_name b.known.entries
known_alike d a b x y =
    btree_map_read_from_get order_total a.known b.known x.ordered y.ordered
    (λ s. x.known s ∙ sym (y.known s)) semantic_name
    (λ s t tie. same_name s t (Equal-same_key s t tie))

pub names_alike : (d : Data) (a b : Attributes) → AreAttributes d a → AreAttributes d b
    → map string_bytes a.unknown.items ≡ map string_bytes b.unknown.items
names_alike d a b x y = unknown_alike d (names_of d) (map string_bytes a.unknown.items)
    (map string_bytes b.unknown.items) x.unknown y.unknown
