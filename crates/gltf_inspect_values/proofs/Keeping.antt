-- What is kept of accessors is what is found of all that read the same.
use Rattle.std.proofs.Common.{◌≡◌, ℕ, zero, suc, ◌⊎◌, inl, inr, List, [], ◌∷◌, set, Option, Some}
use Rattle.std.proofs.Common.{Bool, true, false, refl, sym, ap, ◌∙◌, subst, map}
use Rattle.std.specs.Prelude.{slice_get, if◌then◌else◌}
use Rattle.std.proofs.lemmas.Bool.{cond-true, cond-false, true≢false}
use Rattle.gltf_json.specs.declared.root.Root.{Root}
use Rattle.gltf_json_record.specs.declared.validation.Checked.{Checked}
use Rattle.gltf_json_geometry.specs.declared.accessor.Accessor.{Accessor}
use Rattle.gltf_json_geometry.specs.declared.accessor.ComponentType.{ComponentType}
use Rattle.gltf_json_geometry.specs.declared.accessor.«Type» as shape
use Rattle.gltf_findings.specs.Checks.{Checks, Nothing, Condition}
use Rattle.gltf_findings.specs.declared.code.Code.TheVariants.{ItemsNotLookedAt}
use Rattle.gltf_handles.specs.Sizes.{item_size}
use Rattle.gltf_items.specs.Floats.{float_of}
use Rattle.gltf_ranges.specs.Alike.{ReadTheSame}
use Rattle.gltf_inspect_items.specs.AlikeLaws.{same_items, same_size}
use Rattle.gltf_inspect_items.specs.Reading.{Bytes, items_at}
use Rattle.gltf_inspect_values.specs.Items.{as_bytes, item_bytes}
use Rattle.gltf_inspect_values.specs.Accessors.{accessor_checks}
use Rattle.gltf_inspect_values.specs.Plans.{AreSummaries, accessor_checks_but, input_checks_but}
use Rattle.gltf_inspect_values.specs.Summaries.{IsSummaryOf}
use Rattle.gltf_inspect_values.specs.Times.{are_times, times_of, times, times_checks}
use Rattle.gltf_inspect_values.specs.declared.summary.Summary.{Summary}

module _ (r : Root) (bytes : Bytes) where
  -- what is found of the one is found of the other
  pub summary_alike : (i j : ℕ) (a : Accessor) (found : Summary)
      → ReadTheSame r.accessors.items i j → slice_get r.accessors.items i ≡ Some a
      → ((b : Accessor) → slice_get r.accessors.items j ≡ Some b
      → IsSummaryOf b.component_type (item_bytes r bytes j b) found)
      → IsSummaryOf a.component_type (item_bytes r bytes i a) found
  summary_alike i j a found (inl one) here there =
      let at_j : slice_get r.accessors.items j ≡ Some a
      = ap (λ (k : ℕ). slice_get r.accessors.items k) (sym one) ∙ here in
      subst (λ (k : ℕ). IsSummaryOf a.component_type (item_bytes r bytes k a) found) (sym one)
      (there a at_j)
  summary_alike i j a found (inr two) here there =
      let same : ReadTheSame r.accessors.items i j = inr two in
      let first : a ≡ two.a = cc (here, two.first) in
      let items : item_bytes r bytes j two.b ≡ item_bytes r bytes i two.a
      = ap (λ (n : ℕ). items_at (as_bytes n) r bytes j) (sym (same_size two.a two.b two.alike))
      ∙ sym (same_items (as_bytes (item_size two.a)) r bytes i j same) in
      subst (λ (b : Accessor). IsSummaryOf b.component_type (item_bytes r bytes i b) found)
      (sym first)
      (subst (λ (t : Checked ComponentType). IsSummaryOf t (item_bytes r bytes i two.a) found)
      (sym two.alike.component)
      (subst (λ (xs : List (List ℕ)). IsSummaryOf two.b.component_type xs found) items
      (there two.b two.second)))

  same_back : (i j : ℕ) → ReadTheSame r.accessors.items i j → ReadTheSame r.accessors.items j i
  same_back i j (inl one) = inl (sym one)
  same_back i j (inr two) = inr record {
    a = two.b;
    b = two.a;
    first = two.second;
    second = two.first;
    alike = record {
      view = two.alike.view;
      in_view = two.alike.in_that_view;
      in_that_view = two.alike.in_view;
      offset = sym two.alike.offset;
      count = sym two.alike.count;
      component = sym two.alike.component;
      shape = sym two.alike.shape;
      whole = two.alike.that_whole;
      that_whole = two.alike.whole;
    };
  }

  -- what is at an index after a write: what was written, or what was there
  at_write : {X : Type 0} (xs : List X) (i j : ℕ) (x y : X) → slice_get (set xs i x) j ≡ Some y
      → (slice_get xs j ≡ Some y) ⊎ ((i ≡ j) × (x ≡ y))
  at_write [] i j x y is = cc
  at_write (z ∷ xs) zero zero x y is = inr (refl, cc)
  at_write (z ∷ xs) zero (suc j) x y is = inl is
  at_write (z ∷ xs) (suc i) zero x y is = inl is
  at_write (z ∷ xs) (suc i) (suc j) x y is = elim (at_write xs i j x y is) [
    | inl before ↦ inl before
    | inr here ↦ inr (ap suc here.0, here.1)
  ]

  -- what is found of accessor i is kept at that which reads the same
  pub still_summaries : (table : List (Option Summary)) (i j : ℕ) (a : Accessor) (found : Summary)
      → AreSummaries r bytes table → ReadTheSame r.accessors.items i j
      → slice_get r.accessors.items i ≡ Some a
      → IsSummaryOf a.component_type (item_bytes r bytes i a) found
      → AreSummaries r bytes (set table j (Some found))
  still_summaries table i j a found before same here is k other b at there =
      elim (at_write table j k (Some found) (Some other) at) [
        | inl was ↦ before k other b was there
        | inr now ↦
            let one : found ≡ other = cc (now.1) in
            let at_j : slice_get r.accessors.items j ≡ Some b
            = ap (λ (n : ℕ). slice_get r.accessors.items n) now.0 ∙ there in
            subst (λ (n : ℕ). IsSummaryOf b.component_type (item_bytes r bytes n b) other) now.0
            (subst (λ (f : Summary). IsSummaryOf b.component_type (item_bytes r bytes j b) f) one
            (summary_alike j i b found (same_back i j same) at_j
            (λ c at_i. let same_a : a ≡ c = cc (here, at_i) in
            subst (λ (d : Accessor). IsSummaryOf d.component_type (item_bytes r bytes i d) found)
            same_a is)))
      ]

  pub none_kept : (table : List (Option Summary))
      → ((i : ℕ) (found : Summary) → slice_get table i ≡ Some (Some found) → ⊥)
      → AreSummaries r bytes table
  none_kept table none i found a at there = absurd (none i found at)

-- ---- the times at an accessor, by the first one that reads the same

same_times_of : (r : Root) (bytes : Bytes) (i j : ℕ) (a b : Accessor)
    → items_at (as_bytes 4) r bytes i ≡ items_at (as_bytes 4) r bytes j
    → a.component_type ≡ b.component_type → a.type_ ≡ b.type_
    → times_of r bytes i (Some a) ≡ times_of r bytes j (Some b)
same_times_of r bytes i j a b items component kind =
    ap (λ (xs : List (List ℕ)). if are_times a.component_type a.type_ then map float_of xs else [])
    items
    ∙ ap (λ (c : Checked ComponentType). if are_times c a.type_
    then map float_of (items_at (as_bytes 4) r bytes j) else []) component
    ∙ ap (λ (s : Checked shape.«Type»). if are_times b.component_type s
    then map float_of (items_at (as_bytes 4) r bytes j) else []) kind

pub same_times : (r : Root) (bytes : Bytes) (i j : ℕ) → ReadTheSame r.accessors.items i j
    → times r bytes i ≡ times r bytes j
same_times r bytes i j (inl one) = ap (λ (k : ℕ). times r bytes k) one
same_times r bytes i j (inr two) =
    let same : ReadTheSame r.accessors.items i j = inr two in
    ap (λ (a : Option Accessor). times_of r bytes i a) two.first
    ∙ same_times_of r bytes i j two.a two.b (same_items (as_bytes 4) r bytes i j same)
    two.alike.component two.alike.shape
    ∙ sym (ap (λ (b : Option Accessor). times_of r bytes j b) two.second)

looked_at : (b : Bool) (checks : Checks) → b ≡ false → checks ≡ (if b then Nothing else checks)
looked_at true checks is = absurd (true≢false is)
looked_at false checks is = refl

pub times_checked : (r : Root) (bytes : Bytes) (out : ℕ → Bool) (i j : ℕ)
    → ReadTheSame r.accessors.items i j → out i ≡ false
    → times_checks (times r bytes j) ≡ input_checks_but out r bytes i
times_checked r bytes out i j same is =
    ap times_checks (sym (same_times r bytes i j same))
    ∙ looked_at (out i) (times_checks (times r bytes i)) is

pub times_left_out : (r : Root) (bytes : Bytes) (out : ℕ → Bool) (i : ℕ) → out i ≡ true
    → Nothing ≡ input_checks_but out r bytes i
times_left_out r bytes out i is =
    sym (cond-true (out i) Nothing (times_checks (times r bytes i)) is)

-- ---- the checks of an accessor

pub accessor_checked : (r : Root) (bytes : Bytes) (out : ℕ → Bool) (i : ℕ) (a : Accessor)
    → out i ≡ false → accessor_checks r bytes i a ≡ accessor_checks_but out r bytes i a
accessor_checked r bytes out i a is =
    sym (cond-false (out i) (Condition false ItemsNotLookedAt) (accessor_checks r bytes i a) is)

pub accessor_left_out : (r : Root) (bytes : Bytes) (out : ℕ → Bool) (i : ℕ) (a : Accessor)
    → out i ≡ true → Condition false ItemsNotLookedAt ≡ accessor_checks_but out r bytes i a
accessor_left_out r bytes out i a is =
    sym (cond-true (out i) (Condition false ItemsNotLookedAt) (accessor_checks r bytes i a) is)
