-- The items of a sparse accessor without a view are the values that count, and zero where there are
-- more items than these: by induction on the stored indices.
use Rattle.std.proofs.Common.{◌≡◌, ℕ, zero, suc, ◌+◌, ◌-◌, ◌<◌, ◌≤◌, inl, inr, Bool, true, false}
use Rattle.std.proofs.Common.{◌||◌, ◌&&◌, List, [], ◌∷◌, length, map, take, Some, None}
use Rattle.std.proofs.Common.{refl, sym, ap, ◌∙◌, arith, eqb}
use Rattle.std.specs.Prelude.{unwrap_or, nat_lt}
use Rattle.std.specs.List.{list_any, range_with_len}
use Rattle.std.proofs.lemmas.Bool.{cases_lt, cond-true, cond-false, eq-eqb, ne_eqb}
use Rattle.std.proofs.lemmas.Bool.{lt-ltb, le-ltb, le-leb, lt-leb}
use Rattle.std.proofs.lemmas.List.{take_all}
use Rattle.std.proofs.lemmas.List.Folds.{list_any-append}
use Rattle.gltf_items.specs.Sparse.{rising, front, over, sparse_item, sparse}
use Rattle.gltf_inspect_items.specs.Members.{HaveSameItems, placed, one, few}

or_none : (b : Bool) → b ≡ (b || false)
or_none true = refl
or_none false = refl

or_more : (a b c : Bool) → ((a || b) || c) ≡ (a || (b || c))
or_more true b c = refl
or_more false b c = refl

or_again : (b c : Bool) → (b || (c && b)) ≡ b
or_again true c = refl
or_again false true = refl
or_again false false = refl

-- a zero in front, or a zero behind, is a zero
mixed : (p q t v r : Bool)
    → ((p && t) || (v || ((q && t) || r))) ≡ (((p || q) && t) || (v || r))
mixed true q true v r = refl
mixed true true false v r = refl
mixed true false false v r = refl
mixed false true true true r = refl
mixed false true true false r = refl
mixed false true false v r = refl
mixed false false t v r = refl

some_before : (d m k all : ℕ) → m ≤ k → d + suc k ≡ all
    → nat_lt (suc m) all ≡ (nat_lt 0 d || nat_lt m k)
some_before zero m k all within is = elim (cases_lt m k) [
  | inl more ↦ lt-ltb (suc m) all (omega arith) ∙ sym (lt-ltb m k more)
  | inr none ↦ le-ltb (suc m) all (omega arith) ∙ sym (le-ltb m k none)
]
some_before (suc d) m k all within is =
    lt-ltb (suc m) all (omega arith)
    ∙ ap (λ b. b || nat_lt m k) (sym (lt-ltb 0 (suc d) (omega arith)))

-- no more than there are places
placed_fits : (least n : ℕ) (xs : List ℕ) → least ≤ n → placed least n xs + least ≤ n
placed_fits least n [] within = omega arith
placed_fits least n (x ∷ xs) within = elim (cases_lt x least) [
  | inl low ↦ rw (lt-leb least x low) (omega arith)
  | inr from ↦ elim (cases_lt x n) [
    | inl below ↦ rw (le-leb least x from, lt-ltb x n below)
        (omega (arith, placed_fits (x + 1) n xs (omega arith)))
    | inr past ↦ rw (le-leb least x from, le-ltb x n past) (omega arith)
  ]
]

module _ {X : Type 0} where
  -- what rises from a number on has no index below it
  none_over : (least : ℕ) (xs : List ℕ) (vs : List X) (i : ℕ) → i < least
      → over (rising least xs) vs i ≡ None
  none_over least [] vs i h = refl
  none_over least (x ∷ xs) [] i h = elim (cases_lt x least) [
    | inl low ↦ rw (lt-leb least x low) refl
    | inr from ↦ rw (le-leb least x from) refl
  ]
  none_over least (x ∷ xs) (v ∷ vs) i h = elim (cases_lt x least) [
    | inl low ↦ rw (lt-leb least x low) refl
    | inr from ↦ rw (le-leb least x from)
        (cond-false (eqb x i) (Some v) (over (rising (x + 1) xs) vs i)
        (ne_eqb x i (λ same. omega arith)) ∙ none_over (x + 1) xs vs i (omega arith))
  ]

module _ {X : Type 0} (test : X → Bool) (nil : X) where
  abbrev any_at : (ℕ → X) → ℕ → ℕ → Bool
  any_at f a k = list_any test (map f (range_with_len a k))

  all_nil : (f : ℕ → X) (a k : ℕ) → ((i : ℕ) → a ≤ i → i < a + k → f i ≡ nil)
      → any_at f a k ≡ (nat_lt 0 k && test nil)
  all_nil f a zero is = refl
  all_nil f a (suc k) is =
      ap (λ x. test x || list_any test (map f (range_with_len (a + 1) k)))
      (is a (omega arith) (omega arith))
      ∙ ap (λ b. test nil || b) (all_nil f (a + 1) k (λ i low high. is i (omega arith) (omega arith)))
      ∙ or_again (test nil) (nat_lt 0 k)
      ∙ ap (λ b. b && test nil) (sym (lt-ltb 0 (suc k) (omega arith)))

  any_same : (f g : ℕ → X) (a k : ℕ) → ((i : ℕ) → a ≤ i → f i ≡ g i) → any_at f a k ≡ any_at g a k
  any_same f g a zero is = refl
  any_same f g a (suc k) is =
      ap (λ x. test x || list_any test (map f (range_with_len (a + 1) k))) (is a (omega arith))
      ∙ ap (λ b. test (g a) || b) (any_same f g (a + 1) k (λ i low. is i (omega arith)))

  any_split : (f : ℕ → X) (a d e b n : ℕ) → d + e ≡ n → a + d ≡ b
      → any_at f a n ≡ (any_at f a d || any_at f b e)
  any_split f a zero e b n sum next =
      let same : n ≡ e = omega arith in
      let begins : b ≡ a = omega arith in
      rw (same, begins) refl
  any_split f a (suc d) e b zero sum next = absurd (omega arith)
  any_split f a (suc d) e b (suc n) sum next =
      ap (λ c. test (f a) || c) (any_split f (a + 1) d e b n (omega arith) (omega arith))
      ∙ sym (or_more (test (f a)) (any_at f (a + 1) d) (any_at f b e))

  abbrev item : List ℕ → List X → ℕ → X
  item xs vs i = unwrap_or (over xs vs i) nil

  no_more : (xs : List ℕ) (vs : List X) (least k : ℕ)
      → ((i : ℕ) → i < least + k → over xs vs i ≡ None)
      → any_at (item xs vs) least k ≡ ((nat_lt 0 k && test nil) || list_any test (take 0 vs))
  no_more xs vs least k none =
      all_nil (item xs vs) least k (λ i low high. ap (λ o. unwrap_or o nil) (none i high))
      ∙ or_none (nat_lt 0 k && test nil)

  from_next : (f : ℕ → X) (x k : ℕ) → any_at f x (suc k) ≡ (test (f x) || any_at f (x + 1) k)
  from_next f x k = refl

  -- so many places from the next index on
  with_next : (x d k : ℕ) (xs : List ℕ) (v : X) (vs : List X) (least all m : ℕ)
      → least + d ≡ x → d + suc k ≡ all → m ≤ k
      → any_at (item (rising (x + 1) xs) vs) (x + 1) k
      ≡ ((nat_lt m k && test nil) || list_any test (take m vs))
      → any_at (item (x ∷ rising (x + 1) xs) (v ∷ vs)) least all
      ≡ ((nat_lt (suc m) all && test nil) || list_any test (take (suc m) (v ∷ vs)))
  with_next x d k xs v vs least all m to sum within others =
      let rest = rising (x + 1) xs in
      let f = λ (i : ℕ). item (x ∷ rest) (v ∷ vs) i in
      let before : any_at f least d ≡ (nat_lt 0 d && test nil) =
      all_nil f least d (λ i low high.
      ap (λ o. unwrap_or o nil) (cond-false (eqb x i) (Some v) (over rest vs i)
      (ne_eqb x i (λ same. omega arith)) ∙ none_over (x + 1) xs vs i (omega arith))) in
      let here : f x ≡ v =
      ap (λ o. unwrap_or o nil) (cond-true (eqb x x) (Some v) (over rest vs x) (eq-eqb x x refl)) in
      let behind : any_at f (x + 1) k ≡ ((nat_lt m k && test nil) || list_any test (take m vs)) =
      any_same f (item rest vs) (x + 1) k (λ i low.
      ap (λ o. unwrap_or o nil) (cond-false (eqb x i) (Some v) (over rest vs i)
      (ne_eqb x i (λ same. omega arith)))) ∙ others in
      any_split f least d (suc k) x all sum to
      ∙ ap (λ b. b || any_at f x (suc k)) before
      ∙ ap (λ b. (nat_lt 0 d && test nil) || b) (from_next f x k)
      ∙ ap (λ y. (nat_lt 0 d && test nil) || (test y || any_at f (x + 1) k)) here
      ∙ ap (λ b. (nat_lt 0 d && test nil) || (test v || b)) behind
      ∙ mixed (nat_lt 0 d) (nat_lt m k) (test nil) (test v) (list_any test (take m vs))
      ∙ ap (λ b. (b && test nil) || (test v || list_any test (take m vs)))
      (sym (some_before d m k all within sum))

  same_at : (xs : List ℕ) (vs : List X) (least k n : ℕ) → length xs ≤ length vs → least + k ≡ n
      → any_at (item (rising least xs) vs) least k
      ≡ ((nat_lt (placed least n xs) k && test nil) || list_any test (take (placed least n xs) vs))
  same_at [] vs least k n enough sum = no_more [] vs least k (λ i h. refl)
  same_at (x ∷ xs) [] least k n enough sum = absurd (omega arith)
  same_at (x ∷ xs) (v ∷ vs) least k n enough sum = elim (cases_lt x least) [
    | inl low ↦ rw (lt-leb least x low) (no_more [] (v ∷ vs) least k (λ i h. refl))
    | inr from ↦ elim (cases_lt x n) [
      | inl below ↦ rw (le-leb least x from, lt-ltb x n below)
          (with_next x (x - least) (n - (x + 1)) xs v vs least k (placed (x + 1) n xs)
          (omega arith) (omega arith) (omega (arith, placed_fits (x + 1) n xs (omega arith)))
          (same_at xs vs (x + 1) (n - (x + 1)) n (omega arith) (omega arith)))
      | inr past ↦ rw (le-leb least x from, le-ltb x n past)
          (no_more (x ∷ rising (x + 1) xs) (v ∷ vs) least k (λ i h.
          cond-false (eqb x i) (Some v) (over (rising (x + 1) xs) vs i)
          (ne_eqb x i (λ same. omega arith)) ∙ none_over (x + 1) xs vs i (omega arith)))
    ]
  ]

  any_one : (b : Bool) → list_any test (one nil b) ≡ (b && test nil)
  any_one true = sym (or_none (test nil))
  any_one false = refl

  any_of_few : (n : ℕ) (indices : List ℕ) (values : List X) → length indices ≤ length values
      → list_any test (few nil n indices values) ≡ list_any test (sparse nil None n indices values)
  unfolding front sparse sparse_item
  any_of_few n indices values enough =
      list_any-append test (one nil (nat_lt (placed 0 n indices) n))
      (take (placed 0 n indices) values)
      ∙ ap (λ b. b || list_any test (take (placed 0 n indices) values))
      (any_one (nat_lt (placed 0 n indices) n))
      ∙ sym (same_at indices values 0 n n enough (omega arith))
      ∙ ap (λ is. any_at (item (rising 0 is) values) 0 n)
      (sym (take_all (length values) indices enough))

pub few_are_the_same : {X : Type 0} (nil : X) (n : ℕ) (indices : List ℕ) (values : List X)
    → length indices ≤ length values
    → HaveSameItems (few nil n indices values) (sparse nil None n indices values)
few_are_the_same nil n indices values enough =
    record { any = λ test. any_of_few test nil n indices values enough }
