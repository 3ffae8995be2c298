-- The cursor among the front's indices, and the search for it.
use Rattle.std.proofs.Common.{◌≡◌, ◌≢◌, ℕ, ◌+◌, ◌/◌, ◌^◌, ◌<◌, ◌≤◌, List, length, sym, ap, ◌∙◌}
use Rattle.std.proofs.Common.{arith, inl, inr}
use Rattle.std.proofs.lemmas.Bool.{cases_order}
use Rattle.std.proofs.lemmas.Int.Digits.{length-digits_of_step, length-digits_of-le, number_lt}
use Rattle.std.proofs.lemmas.Int.Digits.{number_digits_of, all_below_base_digits_of}
use Rattle.std.specs.Int.Digits.{digits_of, number_from_digits}
use Rattle.std.specs.Prelude.{slice_index}
use Rattle.gltf_items.specs.Sparse.{digits}
use Rattle.gltf_items.specs.Stored.{StoredLists}
use Rattle.gltf_items.specs.Cursor.{Rises, Stands}

-- the lists stay where only the count of index reads changes
module _ {X : Type 0} {s : StoredLists X} (t : StoredLists X) {n : ℕ}
    (counts : s ≡ record t { index_reads = n }) where
  pub same_base : s.base ≡ t.base
  same_base = ap (λ (u : StoredLists X). u.base) counts

  pub same_indices : s.indices ≡ t.indices
  same_indices = ap (λ (u : StoredLists X). u.indices) counts

  pub same_values : s.values ≡ t.values
  same_values = ap (λ (u : StoredLists X). u.values) counts

  pub count_is : s.index_reads ≡ n
  count_is = ap (λ (u : StoredLists X). u.index_reads) counts

module _ {indices : List ℕ} {front_len : ℕ} (rises : Rises indices front_len) {cursor position : ℕ}
    (stands : Stands indices front_len cursor position) where
  -- only the index at the cursor can be the position
  pub others_miss : (cursor < front_len → slice_index indices cursor ≢ position) → (k : ℕ)
      → k < front_len → slice_index indices k ≢ position
  others_miss miss k h e =
      elim (cases_order k cursor) [
        | inl same ↦ miss (omega arith) (sym (ap (slice_index indices) same) ∙ e)
        | inr other ↦ elim other [
          | inl before ↦ absurd (omega (arith, stands.below k before))
          | inr behind ↦ absurd (omega (
            arith,
            stands.above cursor (omega arith) (omega arith),
            rises.strictly cursor k behind h,
          ))
        ]
      ]

  pub stands_behind_hit : cursor < front_len → slice_index indices cursor ≡ position
      → Stands indices front_len (cursor + 1) (position + 1)
  stands_behind_hit h here = record {
    within = omega arith;
    below = λ k h. elim (cases_order k cursor) [
      | inl same ↦ omega (arith, ap (slice_index indices) same)
      | inr other ↦ elim other [
        | inl before ↦ omega (arith, stands.below k before)
        | inr behind ↦ absurd (omega arith)
      ]
    ];
    above = λ k past inner. omega (arith, rises.strictly cursor k (omega arith) inner);
  }

  pub stands_behind_miss : (cursor < front_len → slice_index indices cursor ≢ position)
      → Stands indices front_len cursor (position + 1)
  stands_behind_miss miss = record {
    within = stands.within;
    below = λ k h. omega (arith, stands.below k h);
    above = λ k past inner. let other : slice_index indices k ≢ position =
        others_miss miss k inner in omega (arith, stands.above k past inner);
  }

-- ---- binary digits

pub digits_half : (n : ℕ) → 0 < n → digits n ≡ digits (n / 2) + 1
unfolding digits
digits_half n h = length-digits_of_step 2 n (omega arith) h

pub digits_rises : (m n : ℕ) → m ≤ n → digits m ≤ digits n
unfolding digits
digits_rises m n h =
    let below : number_from_digits 2 (digits_of 2 n) < 2 ^ length (digits_of 2 n) =
    number_lt 2 (digits_of 2 n) (all_below_base_digits_of 2 n (omega arith)) in
    let is : number_from_digits 2 (digits_of 2 n) ≡ n = number_digits_of 2 n (omega arith) in
    length-digits_of-le 2 (length (digits_of 2 n)) m (omega arith) (omega arith)

-- a search that goes on in the half has a digit less
pub digits_fall : (n m : ℕ) → 0 < n → m ≤ n / 2 → digits m + 1 ≤ digits n
digits_fall n m some half = omega (arith, digits_rises m (n / 2) half, digits_half n some)

-- ---- the search

-- what the middle says of the indices before it, and after it
pub below_middle : {indices : List ℕ} {front_len target middle : ℕ} → Rises indices front_len
    → middle < front_len → slice_index indices middle < target → (k : ℕ) → k < middle + 1
    → slice_index indices k < target
below_middle {indices = indices} {middle = middle} rises h small k before =
    elim (cases_order k middle) [
      | inl same ↦ omega (arith, ap (slice_index indices) same)
      | inr other ↦ elim other [
        | inl less ↦ omega (arith, rises.strictly k middle less h)
        | inr more ↦ absurd (omega arith)
      ]
    ]

pub above_middle : {indices : List ℕ} {front_len target middle : ℕ} → Rises indices front_len
    → target ≤ slice_index indices middle → (k : ℕ) → middle ≤ k → k < front_len
    → target ≤ slice_index indices k
above_middle {indices = indices} {middle = middle} rises large k past h =
    elim (cases_order k middle) [
      | inl same ↦ omega (arith, ap (slice_index indices) same)
      | inr other ↦ elim other [
        | inl less ↦ absurd (omega arith)
        | inr more ↦ omega (arith, rises.strictly middle k more h)
      ]
    ]
