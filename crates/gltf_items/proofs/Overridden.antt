-- The map from the indices of the front to the values, and the items that it makes with a base. An
-- index of the front gives its item the value at its place (`item_at_value`), and any other item is
-- the base's (`item_at_base`): by `over_at` and `over_none`, inductions on the indices. That the
-- front increases (`front_rises`) excludes an earlier place of the same index. For the contracts of
-- `item_at` and of `SparseIter`, which need what is left from a position on (`slice_get-left`,
-- `left_none`), and for the law `sparse_by_position`.
use Rattle.std.proofs.Common.{◌≡◌, ◌≢◌, ℕ, zero, suc, ◌+◌, ◌-◌, ◌<◌, ◌≤◌, List, [], ◌∷◌, length}
use Rattle.std.proofs.Common.{drop, get_or, Option, Some, None, refl, sym, ap, ◌∙◌, arith, eqb, inl}
use Rattle.std.proofs.Common.{inr}
use Rattle.std.proofs.lemmas.Bool.{cases_lt, cond-true, cond-false, eq-eqb, ne_eqb}
use Rattle.std.proofs.lemmas.List.{get_or-drop, length-drop, drop_all}
use Rattle.std.proofs.lemmas.List.FromFn.{length-map-range_with_len, get_or-map-range_with_len}
use Rattle.std.proofs.lemmas.Option.{slice_get-get_or, slice_get_past, none-some}
use Rattle.std.specs.Prelude.{slice_get, slice_index, SomeIff}
use Rattle.gltf_items.specs.Sparse.{front, over, under, total, sparse_item, sparse}
use Rattle.gltf_items.specs.Laws.{Overrides}
use Rattle.gltf_items.proofs.Fronts.{front-at, front_rises}

-- the value at the first place of an index
over_at : {X : Type 0} (xs : List ℕ) (values : List X) (i k : ℕ) (v : X) → k < length xs
    → ((j : ℕ) → j < k → get_or xs j 0 ≢ i) → get_or xs k 0 ≡ i → slice_get values k ≡ Some v
    → over xs values i ≡ Some v
over_at [] values i k v h before here is = absurd (omega arith)
over_at (x ∷ xs) [] i k v h before here is = absurd (none-some v is)
over_at (x ∷ xs) (w ∷ ws) i zero v h before here is =
    cond-true (eqb x i) (Some w) (over xs ws i) (eq-eqb x i here) ∙ is
over_at (x ∷ xs) (w ∷ ws) i (suc k) v h before here is =
    cond-false (eqb x i) (Some w) (over xs ws i) (ne_eqb x i (before 0 (omega arith)))
    ∙ over_at xs ws i k v (omega arith) (λ j less. before (suc j) (omega arith)) here is

over_none : {X : Type 0} (xs : List ℕ) (values : List X) (i : ℕ)
    → ((j : ℕ) → j < length xs → get_or xs j 0 ≢ i) → over xs values i ≡ None
over_none [] values i none = refl
over_none (x ∷ xs) [] i none = refl
over_none (x ∷ xs) (w ∷ ws) i none =
    cond-false (eqb x i) (Some w) (over xs ws i) (ne_eqb x i (none 0 (omega arith)))
    ∙ over_none xs ws i (λ j less. none (suc j) (omega arith))

module _ {X : Type 0} (nil : X) (base : Option (List X)) (indices : List ℕ) (values : List X) where
  -- an index of the front gives its item the value at its place
  pub item_at_value : (i k : ℕ) (v : X) → k < length (front indices values)
      → slice_index indices k ≡ i → slice_get values k ≡ Some v
      → sparse_item nil base indices values i ≡ v
  unfolding sparse_item
  item_at_value i k v h here is =
      let found : over (front indices values) values i ≡ Some v =
      over_at (front indices values) values i k v h
      (λ j before e.
      let less : slice_index indices j < slice_index indices k =
      (front_rises indices values).strictly j k before h in
      omega (arith, (front-at indices values j (omega arith)).0))
      ((front-at indices values k h).0 ∙ here) is in
      rw found refl

  -- any other item is the base's
  pub item_at_base : (i : ℕ) → ((k : ℕ) → k < length (front indices values)
      → slice_index indices k ≢ i) → sparse_item nil base indices values i ≡ under nil base i
  unfolding sparse_item
  item_at_base i others =
      let none : over (front indices values) values i ≡ None =
      over_none (front indices values) values i
      (λ j h e. others j h (sym (front-at indices values j h).0 ∙ e)) in
      rw none refl

  module _ (n : ℕ) where
    pub length-sparse : length (sparse nil base n indices values) ≡ total base n
    unfolding sparse
    length-sparse = length-map-range_with_len (sparse_item nil base indices values) 0 (total base n)

    get_or-sparse : (i : ℕ) (d : X) → i < total base n
        → get_or (sparse nil base n indices values) i d ≡ sparse_item nil base indices values i
    unfolding sparse
    get_or-sparse i d h = get_or-map-range_with_len (sparse_item nil base indices values) 0
        (total base n) i i d h (omega arith)

    -- what is left from a position on begins with items from there on
    pub slice_get-left : (p k i : ℕ) → p + k ≡ i → i < total base n
        → slice_get (drop p (sparse nil base n indices values)) k
        ≡ Some (sparse_item nil base indices values i)
    slice_get-left p k i is h =
        let nil_item : X = sparse_item nil base indices values i in
        slice_get-get_or (drop p (sparse nil base n indices values)) k nil_item
        (omega (arith, length-drop p (sparse nil base n indices values), length-sparse))
        ∙ ap Some (get_or-drop p (sparse nil base n indices values) k nil_item
        ∙ ap (λ (j : ℕ). get_or (sparse nil base n indices values) j nil_item) is
        ∙ get_or-sparse i nil_item h)

    pub length-left : (p : ℕ) → length (drop p (sparse nil base n indices values))
        ≡ total base n - p
    length-left p =
        length-drop p (sparse nil base n indices values) ∙ ap (λ (m : ℕ). m - p) length-sparse

    left_short : (p k : ℕ) → total base n ≤ p + k
        → length (drop p (sparse nil base n indices values)) ≤ k
    left_short p k h = omega (arith, length-left p)

    -- past the end there is no item, and nothing is left
    pub left_none : (p k : ℕ) → total base n ≤ p + k
        → slice_get (drop p (sparse nil base n indices values)) k ≡ None
    left_none p k h =
        slice_get_past (drop p (sparse nil base n indices values)) k (left_short p k h)

    pub left_past : (p k : ℕ) → total base n ≤ p + k
        → drop k (drop p (sparse nil base n indices values)) ≡ []
    left_past p k h = drop_all k (drop p (sparse nil base n indices values)) (left_short p k h)

    pub left_all : (p : ℕ) → total base n ≤ p → drop p (sparse nil base n indices values) ≡ []
    left_all p h = drop_all p (sparse nil base n indices values) (omega (arith, length-sparse))

-- the number of items is that of the base, where there is one
pub sparse_total : {X : Type 0} (nil : X) (base : Option (List X)) (n : ℕ) (indices : List ℕ)
    (values : List X) → sparse nil base (total base n) indices values
    ≡ sparse nil base n indices values
unfolding sparse
sparse_total nil None n indices values = refl
sparse_total nil (Some items) n indices values = refl

-- ---- the items by position

module _ {X : Type 0} (nil : X) (base : Option (List X)) (indices : List ℕ) (values : List X) where
  value_stands : (k : ℕ) → k < length (front indices values) → k < length values
      → slice_get values k ≡ Some (sparse_item nil base indices values (slice_index indices k))
  value_stands k h valued =
      let v : X = get_or values k nil in
      let is : slice_get values k ≡ Some v = slice_get-get_or values k nil valued in
      is ∙ ap Some (sym (item_at_value nil base indices values
      (slice_index indices k) k v h refl is))

  pub overrides : Overrides nil base indices values
  overrides = record {
    replaced = λ k h. let at = front-at indices values k h in rw at.0 (value_stands k h at.2);
    kept = λ i others. item_at_base nil base indices values i
        (λ k h e. others k h ((front-at indices values k h).0 ∙ e));
  }

  pub sparse_by_position : (n i : ℕ) → SomeIff (slice_get (sparse nil base n indices values) i)
      (i < total base n) (sparse_item nil base indices values i)
  sparse_by_position n i =
      elim (cases_lt i (total base n)) [
        | inl there ↦ rw (slice_get-left nil base indices values n 0 i i (omega arith) there)
            (there, refl)
        | inr past ↦ rw (left_none nil base indices values n 0 i (omega arith)) (λ h. omega arith)
      ]
