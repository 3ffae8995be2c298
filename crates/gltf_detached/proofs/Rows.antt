-- What is read of one row of a list, before and behind.
use Rattle.std.proofs.Common.{◌≡◌, ℕ, zero, suc, List, [], ◌∷◌, length, Option, Some, None, refl}
use Rattle.std.proofs.Common.{sym}
use Rattle.std.proofs.Common.{ap, subst, ◌∙◌, slice_get, option_map}
use Rattle.std.specs.Prelude.{MatchOption, option_and_then}
use Rattle.serde_json.specs.Data.{Data, null, boolean, number, string, array, object, Items}
use Rattle.serde_json.specs.Data.{no_items, item}
use Rattle.serde_json.specs.Events.{items_len}
use Rattle.serde_json.specs.Find.{get_item, as_array}
use Rattle.gltf_json_record.specs.Items.{AllRead}
use Rattle.gltf_json_record.specs.Member.{unless_null}
use Rattle.gltf_detach.specs.Detached.{elsewhere, each_elsewhere, all_elsewhere, first, rest}
use Rattle.gltf_detach.specs.declared.owner.Owner.{Owner}

abbrev pub ReadsList : {T : Type 0} → (Data → T → Type 0) → Option Data → List T → Type 0
ReadsList P o xs = MatchOption (option_and_then unless_null o) (xs ≡ [])
    (λ e. MatchOption (as_array e) ⊥ (λ ds. AllRead P ds xs))

-- what is read at an index
pub record ReadAt {T : Type 0} (P : Data → T → Type 0) (e : Data) (ys : List T)
    (i : ℕ) : Type 0 where
  pub value : T
  pub there : slice_get ys i ≡ Some value
  pub reads : P e value

-- x was read of d, and what is read of d with this URI stands at the same index
pub record Both {T : Type 0} (P : Data → T → Type 0) (o : Owner) (u : List ℕ) (x : T) (ys : List T)
    (i : ℕ) : Type 0 where
  pub value : Data
  pub before : P value x
  pub after : ReadAt P (elsewhere o (Some u) value) ys i

module _ {T : Type 0} (P : Data → T → Type 0) (o : Owner) where
  both_at : (us : List (Option (List ℕ))) (ds : Items) (xs ys : List T) (i : ℕ) (x : T)
      (u : List ℕ) → AllRead P ds xs → AllRead P (each_elsewhere o us ds) ys
      → slice_get us i ≡ Some (Some u) → slice_get xs i ≡ Some x → Both P o u x ys i
  both_at [] ds xs ys i x u is after has there = cc
  both_at (w ∷ us) no_items [] ys i x u is after has there = cc
  both_at (w ∷ us) no_items (z ∷ xs) ys i x u is after has there = absurd is
  both_at (w ∷ us) (item d ds) [] ys i x u is after has there = absurd is
  both_at (w ∷ us) (item d ds) (z ∷ xs) [] i x u is after has there = absurd after
  both_at (w ∷ us) (item d ds) (z ∷ xs) (y ∷ ys) zero x u is after has there =
      let named : w ≡ Some u = cc in
      let same : z ≡ x = cc in
      record {
        value = d;
        before = subst (λ z. P d z) same is.0;
        after =
            record {
              value = y;
              there = refl;
              reads = subst (λ w. P (elsewhere o w d) y) named after.0;
            };
      }
  both_at (w ∷ us) (item d ds) (z ∷ xs) (y ∷ ys) (suc i) x u is after has there =
      let later = both_at us ds xs ys i x u is.1 after.1 has there in
      let found = later.after in
      record {
        value = later.value;
        before = later.before;
        after = record { value = found.value; there = found.there; reads = found.reads };
      }

  none_both : (xs ys : List T) (i : ℕ) (x : T) (u : List ℕ) → xs ≡ [] → slice_get xs i ≡ Some x
      → Both P o u x ys i
  none_both [] ys i x u none there = cc
  none_both (z ∷ xs) ys i x u none there = cc

  pub both : (us : List (Option (List ℕ))) (l : Option Data) (xs ys : List T) (i : ℕ) (x : T)
      (u : List ℕ) → ReadsList P l xs → ReadsList P (option_map (all_elsewhere o us) l) ys
      → slice_get us i ≡ Some (Some u) → slice_get xs i ≡ Some x → Both P o u x ys i
  both us None xs ys i x u is after has there = none_both xs ys i x u is there
  both us (Some null) xs ys i x u is after has there = none_both xs ys i x u is there
  both us (Some (boolean b)) xs ys i x u is after has there = absurd is
  both us (Some (number n)) xs ys i x u is after has there = absurd is
  both us (Some (string s)) xs ys i x u is after has there = absurd is
  both us (Some (array ds)) xs ys i x u is after has there =
      both_at us ds xs ys i x u is after has there
  both us (Some (object ms)) xs ys i x u is after has there = absurd is

  as_many : (us : List (Option (List ℕ))) (ds : Items) (xs ys : List T) → AllRead P ds xs
      → AllRead P (each_elsewhere o us ds) ys → length ys ≡ length xs
  as_many us no_items [] [] is after = refl
  as_many us no_items [] (y ∷ ys) is after = absurd after
  as_many us no_items (x ∷ xs) ys is after = absurd is
  as_many us (item d ds) [] ys is after = absurd is
  as_many us (item d ds) (x ∷ xs) [] is after = absurd after
  as_many us (item d ds) (x ∷ xs) (y ∷ ys) is after =
      ap suc (as_many (rest us) ds xs ys is.1 after.1)

  none_many : (xs ys : List T) → xs ≡ [] → ys ≡ [] → length ys ≡ length xs
  none_many xs ys one two =
      ap (λ (zs : List T). length zs) two ∙ sym (ap (λ (zs : List T). length zs) one)

  pub same_count : (us : List (Option (List ℕ))) (l : Option Data) (xs ys : List T)
      → ReadsList P l xs → ReadsList P (option_map (all_elsewhere o us) l) ys
      → length ys ≡ length xs
  same_count us None xs ys is after = none_many xs ys is after
  same_count us (Some null) xs ys is after = none_many xs ys is after
  same_count us (Some (boolean b)) xs ys is after = absurd is
  same_count us (Some (number n)) xs ys is after = absurd is
  same_count us (Some (string s)) xs ys is after = absurd is
  same_count us (Some (array ds)) xs ys is after = as_many us ds xs ys is after
  same_count us (Some (object ms)) xs ys is after = absurd is
