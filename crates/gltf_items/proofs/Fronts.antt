-- The front of the stored indices: the longest strictly increasing beginning, no longer than the
-- values. `front-at` and `front_rises` say which indices it has and that they increase, for
-- `item_at` and `SparseIter::nth`. `ahead` counts what the loop of `front_len` has yet to find:
-- `ahead_more` is a turn, `ahead_none` and `ahead_end` are its ends. `front_is` proves the law
-- `front_is_longest`. The lemmas on `rising` are inductions on the list, which split on whether its
-- head is at least `least`.
use Rattle.std.proofs.Common.{◌≡◌, ℕ, zero, suc, ◌+◌, ◌<◌, ◌≤◌, min, List, [], ◌∷◌, length, take}
use Rattle.std.proofs.Common.{drop, get_or, refl, ap, ◌∙◌, arith, leb}
use Rattle.std.proofs.lemmas.Bool.{cond_both, cond-true, cond-false, le-leb, lt-leb, leb-true}
use Rattle.std.proofs.lemmas.List.{get_or-take, length-take, take-take, drop_all, at_drop_more}
use Rattle.std.specs.Prelude.{slice_index}
use Rattle.gltf_items.proofs.PlainLemmas.{le_from_below}
use Rattle.gltf_items.specs.Sparse.{rising, front}
use Rattle.gltf_items.specs.Cursor.{Rises}
use Rattle.gltf_items.specs.Laws.{IsFront}

-- a rising beginning has the list's numbers, from `least` on
rising-at : (least : ℕ) (xs : List ℕ) (k : ℕ) → k < length (rising least xs)
    → (get_or (rising least xs) k 0 ≡ get_or xs k 0) × (least ≤ get_or xs k 0) × (k < length xs)
rising-at least [] k h = absurd (omega arith)
rising-at least (x ∷ xs) zero h =
    cond_both (leb least x) (x ∷ rising (x + 1) xs) []
    (λ ys. 0 < length ys → (get_or ys 0 0 ≡ x) × (least ≤ x) × (0 < suc (length xs)))
    (λ e _. (refl, leb-true least x e, omega arith)) (λ _ none. absurd (omega arith)) h
rising-at least (x ∷ xs) (suc k) h =
    cond_both (leb least x) (x ∷ rising (x + 1) xs) []
    (λ ys. suc k < length ys → (get_or ys (suc k) 0 ≡ get_or xs k 0) × (least ≤ get_or xs k 0)
    × (suc k < suc (length xs)))
    (λ e inner. let deeper = rising-at (x + 1) xs k (omega arith) in
    (deeper.0, omega (arith, leb-true least x e, deeper.1), omega (arith, deeper.2)))
    (λ _ none. absurd (omega arith)) h

rising-strict : (least : ℕ) (xs : List ℕ) (j k : ℕ) → j < k → k < length (rising least xs)
    → get_or xs j 0 < get_or xs k 0
rising-strict least [] j k before h = absurd (omega arith)
rising-strict least (x ∷ xs) j zero before h = absurd (omega arith)
rising-strict least (x ∷ xs) zero (suc k) before h =
    cond_both (leb least x) (x ∷ rising (x + 1) xs) [] (λ ys. suc k < length ys → x < get_or xs k 0)
    (λ e inner. omega (arith, (rising-at (x + 1) xs k (omega arith)).1))
    (λ _ none. absurd (omega arith)) h
rising-strict least (x ∷ xs) (suc j) (suc k) before h =
    cond_both (leb least x) (x ∷ rising (x + 1) xs) []
    (λ ys. suc k < length ys → get_or xs j 0 < get_or xs k 0)
    (λ e inner. rising-strict (x + 1) xs j k (omega arith) (omega arith))
    (λ _ none. absurd (omega arith)) h

-- one step of the search for the front's end
pub rising_more : (least : ℕ) (xs : List ℕ) (i : ℕ) → i < length xs → least ≤ get_or xs i 0
    → length (rising least (drop i xs)) ≡ 1 + length (rising (get_or xs i 0 + 1) (drop (i + 1) xs))
rising_more least xs i h from =
    at_drop_more (λ ys. length (rising least ys)) xs i 0 h
    ∙ ap length (cond-true (leb least (get_or xs i 0))
    (get_or xs i 0 ∷ rising (get_or xs i 0 + 1) (drop (i + 1) xs)) []
    (le-leb least (get_or xs i 0) from)) ∙ omega arith

pub rising_ends : (least : ℕ) (xs : List ℕ) (i : ℕ) → i < length xs → get_or xs i 0 < least
    → length (rising least (drop i xs)) ≡ 0
rising_ends least xs i h below =
    at_drop_more (λ ys. length (rising least ys)) xs i 0 h
    ∙ ap length (cond-false (leb least (get_or xs i 0))
    (get_or xs i 0 ∷ rising (get_or xs i 0 + 1) (drop (i + 1) xs)) []
    (lt-leb least (get_or xs i 0) below))

module _ {X : Type 0} (indices : List ℕ) (values : List X) where
  pub front-at : (k : ℕ) → k < length (front indices values)
      → (get_or (front indices values) k 0 ≡ get_or indices k 0) × (k < length indices)
      × (k < length values)
  unfolding front
  front-at k h =
      let at = rising-at 0 (take (length values) indices) k h in
      let short : k < min (length values) (length indices) =
      omega (arith, at.2, length-take (length values) indices) in
      (at.0 ∙ get_or-take (length values) indices k 0 (omega arith), omega arith, omega arith)

  pub length-front : (length (front indices values) ≤ length indices)
      × (length (front indices values) ≤ length values)
  length-front =
      (le_from_below _ _ (λ k h. (front-at k h).1), le_from_below _ _ (λ k h. (front-at k h).2))

  pub front_rises : Rises indices (length (front indices values))
  unfolding front
  front_rises = record {
    within = length-front.0;
    strictly = λ j k before h.
        let at = front-at k h in
        let strict = rising-strict 0 (take (length values) indices) j k before h in
        rw (
          get_or-take (length values) indices j 0 (omega (arith, at.2)),
          get_or-take (length values) indices k 0 at.2,
        ) at strict;
  }

-- how many more indices the front has from place n on, where the next one is at least `least`
unfoldable pub ahead : {X : Type 0} → List ℕ → List X → ℕ → ℕ → ℕ
ahead indices values least n = length (rising least (drop n (take (length values) indices)))

module _ {X : Type 0} (indices : List ℕ) (values : List X) where
  pub ahead_all : ahead indices values 0 0 ≡ length (front indices values)
  unfolding ahead front
  ahead_all = refl

  here : (n : ℕ) → n < length indices → n < length values
      → (n < length (take (length values) indices))
      × (get_or (take (length values) indices) n 0 ≡ slice_index indices n)
  here n inner valued = (
    omega (arith, length-take (length values) indices),
    get_or-take (length values) indices n 0 valued,
  )

  pub ahead_more : (least n : ℕ) → n < length indices → n < length values
      → least ≤ slice_index indices n → ahead indices values least n
      ≡ 1 + ahead indices values (slice_index indices n + 1) (n + 1)
  unfolding ahead
  ahead_more least n inner valued from =
      let at = here n inner valued in
      rw at.1 at (rising_more least (take (length values) indices) n at.0 (omega (arith, at.1)))

  pub ahead_none : (least n : ℕ) → n < length indices → n < length values
      → slice_index indices n < least → ahead indices values least n ≡ 0
  unfolding ahead
  ahead_none least n inner valued below =
      let at = here n inner valued in
      rising_ends least (take (length values) indices) n at.0 (omega (arith, at.1))

  pub ahead_end : (least n : ℕ) → min (length indices) (length values) ≤ n
      → ahead indices values least n ≡ 0
  unfolding ahead
  ahead_end least n past = ap (λ (xs : List ℕ). length (rising least xs))
      (drop_all n (take (length values) indices)
      (omega (arith, length-take (length values) indices)))

-- ---- the front is the longest such beginning

rising-beginning : (least : ℕ) (xs : List ℕ) → rising least xs ≡ take (length (rising least xs)) xs
rising-beginning least [] = refl
rising-beginning least (x ∷ xs) =
    cond_both (leb least x) (x ∷ rising (x + 1) xs) [] (λ ys. ys ≡ take (length ys) (x ∷ xs))
    (λ e. ap (λ (ys : List ℕ). x ∷ ys) (rising-beginning (x + 1) xs)) (λ e. refl)

-- a strictly increasing beginning that starts from `least` on is no longer
rising-longest : (least : ℕ) (xs : List ℕ) (n : ℕ) → n ≤ length xs → (0 < n → least ≤ get_or xs 0 0)
    → ((k : ℕ) → suc k < n → get_or xs k 0 < get_or xs (suc k) 0) → n ≤ length (rising least xs)
rising-longest least [] n h from strictly = omega arith
rising-longest least (x ∷ xs) zero h from strictly = omega arith
rising-longest least (x ∷ xs) (suc n) h from strictly =
    let longer : n ≤ length (rising (x + 1) xs) =
    rising-longest (x + 1) xs n (omega arith) (λ some. omega (arith, strictly 0 (omega arith)))
    (λ k less. strictly (suc k) (omega arith)) in
    rw (cond-true (leb least x) (x ∷ rising (x + 1) xs) [] (le-leb least x (from (omega arith))))
    (omega arith)

pub front_is : {X : Type 0} (indices : List ℕ) (values : List X)
    → IsFront indices values (front indices values)
unfolding front
front_is indices values =
    let short = length-front indices values in
    record {
      beginning = rising-beginning 0 (take (length values) indices)
          ∙ take-take (length (front indices values)) (length values) indices short.1;
      valued = short.1;
      strictly = λ k h. omega (
        arith,
        (front-at indices values k (omega arith)).0,
        (front-at indices values (k + 1) h).0,
        (front_rises indices values).strictly k (k + 1) (omega arith) h,
      );
      longest = λ n inner valued strictly. rising-longest 0 (take (length values) indices) n
          (omega (arith, length-take (length values) indices)) (λ some. omega arith)
          (λ k h. let next : suc k ≡ k + 1 = omega arith in
          rw (
            next,
            get_or-take (length values) indices k 0 (omega arith),
            get_or-take (length values) indices (k + 1) 0 (omega arith),
          )
          (rw (
            get_or-take n indices k 0 (omega arith),
            get_or-take n indices (k + 1) 0 (omega arith),
          ) at
          (strictly k (omega (arith, length-take n indices)))));
    }
