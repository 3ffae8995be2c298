-- What is read of a member, of a list, and of one element of it.
use Rattle.std.proofs.Common.{◌≡◌, ℕ, zero, suc, List, [], ◌∷◌, length, Option, Some, None, refl}
use Rattle.std.proofs.Common.{subst, slice_get, arith, ◌<◌}
use Rattle.std.specs.Prelude.{MatchOption, option_and_then, unwrap_or}
use Rattle.serde_json.specs.Data.{Data, null, boolean, number, string, array, object, Items}
use Rattle.serde_json.specs.Data.{no_items, item}
use Rattle.serde_json.specs.Events.{items_len}
use Rattle.serde_json.specs.Find.{get, get_item, as_array}
use Rattle.gltf_edit.specs.Embedded.{items_at, count_at}
use Rattle.gltf_json_record.specs.Items.{AllRead}
use Rattle.gltf_json_record.specs.Member.{unless_null}

-- ---- members

-- there is a value, and x is read of it
pub record IsThere {T : Type 0} (P : Data → T → Type 0) (o : Option Data) (x : T) : Type 0 where
  pub value : Data
  pub there : o ≡ Some value
  pub is : P value x

module _ {T : Type 0} (P : Data → T → Type 0) where
  read_of : (e : Data) (f : Option T) (x : T) → MatchOption f ⊥ (P e) → f ≡ Some x
      → IsThere P (Some e) x
  read_of e None x is same = absurd is
  read_of e (Some y) x is same =
      let here : y ≡ x = cc in
      record { value = e; there = refl; is = subst (P e) here is }

  none_there : (o : Option Data) (f : Option T) (x : T) → f ≡ None → f ≡ Some x → IsThere P o x
  none_there o f x none same = cc

  -- a member that may be absent
  pub optional_there : (o : Option Data) (f : Option T) (x : T)
      → MatchOption (option_and_then unless_null o) (f ≡ None) (λ e. MatchOption f ⊥ (P e))
      → f ≡ Some x → IsThere P o x
  optional_there None f x is same = none_there None f x is same
  optional_there (Some null) f x is same = none_there (Some null) f x is same
  optional_there (Some (boolean b)) f x is same = read_of (boolean b) f x is same
  optional_there (Some (number n)) f x is same = read_of (number n) f x is same
  optional_there (Some (string s)) f x is same = read_of (string s) f x is same
  optional_there (Some (array ds)) f x is same = read_of (array ds) f x is same
  optional_there (Some (object ms)) f x is same = read_of (object ms) f x is same

  -- a member that has to be there
  pub required_there : (o : Option Data) (x : T)
      → MatchOption (option_and_then unless_null o) ⊥ (λ e. P e x) → IsThere P o x
  required_there None x is = absurd is
  required_there (Some null) x is = absurd is
  required_there (Some (boolean b)) x is = record { value = boolean b; there = refl; is = is }
  required_there (Some (number n)) x is = record { value = number n; there = refl; is = is }
  required_there (Some (string s)) x is = record { value = string s; there = refl; is = is }
  required_there (Some (array ds)) x is = record { value = array ds; there = refl; is = is }
  required_there (Some (object ms)) x is = record { value = object ms; there = refl; is = is }

-- ---- lists

abbrev pub ReadsList : {T : Type 0} → (Data → T → Type 0) → Option Data → List T → Type 0
ReadsList P o xs = MatchOption (option_and_then unless_null o) (xs ≡ [])
    (λ e. MatchOption (as_array e) ⊥ (λ ds. AllRead P ds xs))

-- an element is read of one of the list
pub record IsReadAt {T : Type 0} (P : Data → T → Type 0) (ds : Items) (i : ℕ) (x : T)
    : Type 0 where
  pub value : Data
  pub there : get_item i ds ≡ Some value
  pub is : P value x

module _ {T : Type 0} (P : Data → T → Type 0) where
  none_read : (xs : List T) → xs ≡ [] → AllRead P no_items xs
  none_read [] none = tt
  none_read (x ∷ xs) none = cc

  list_read : (o : Option Data) (xs : List T) → ReadsList P o xs
      → AllRead P (unwrap_or (option_and_then as_array o) no_items) xs
  list_read None xs is = none_read xs is
  list_read (Some null) xs is = none_read xs is
  list_read (Some (boolean b)) xs is = absurd is
  list_read (Some (number n)) xs is = absurd is
  list_read (Some (string s)) xs is = absurd is
  list_read (Some (array ds)) xs is = is
  list_read (Some (object ms)) xs is = absurd is

  pub all_read : (k : List ℕ) (d : Data) (xs : List T) → ReadsList P (get k d) xs
      → AllRead P (items_at k d) xs
  all_read k d xs is = list_read (get k d) xs is

  pub read_at : (ds : Items) (xs : List T) (i : ℕ) (x : T) → AllRead P ds xs
      → slice_get xs i ≡ Some x → IsReadAt P ds i x
  read_at no_items [] i x all there = cc
  read_at no_items (y ∷ xs) i x all there = absurd all
  read_at (item d ds) [] i x all there = absurd all
  read_at (item d ds) (y ∷ xs) zero x all there =
      let same : y ≡ x = cc in
      record { value = d; there = refl; is = subst (P d) same all.0 }
  read_at (item d ds) (y ∷ xs) (suc i) x all there =
      let later = read_at ds xs i x all.1 there in
      record { value = later.value; there = later.there; is = later.is }

  counted : (ds : Items) (xs : List T) → AllRead P ds xs → items_len ds ≡ length xs
  counted no_items [] all = refl
  counted no_items (x ∷ xs) all = absurd all
  counted (item d ds) [] all = absurd all
  counted (item d ds) (x ∷ xs) all = let later = counted ds xs all.1 in omega (arith, later)

  pub count_read : (k : List ℕ) (d : Data) (xs : List T) → ReadsList P (get k d) xs
      → count_at k d ≡ length xs
  count_read k d xs is = counted (items_at k d) xs (all_read k d xs is)

pub within : {T : Type 0} (xs : List T) (i : ℕ) (x : T) → slice_get xs i ≡ Some x → i < length xs
within [] i x there = cc
within (y ∷ xs) zero x there = omega arith
within (y ∷ xs) (suc i) x there = let later = within xs i x there in omega (arith, later)
