-- What was seen of the first accessors: which ranges, and where each of them is first.
use Rattle.std.proofs.Common.{◌≡◌, ◌≢◌, ◌⊎◌, ◌+◌, ◌<◌, ℕ, zero, suc, List, [], ◌∷◌, ◌++◌, length}
use Rattle.std.proofs.Common.{Option, Some, None, cond, unwrap_or, inl, inr}
use Rattle.std.proofs.Common.{refl, sym, ap, ◌∙◌, arith, ⊎_elim, BTreeMap}
use Rattle.std.specs.Prelude.{slice_get}
use Rattle.std.specs.BTreeMap.{get, is_at, IsEmpty}
use Rattle.std.specs.Ordering.{is_eq}
use Rattle.std.specs.declared.cmp.Ordering.{Ordering}
use Rattle.std.specs.declared.cmp.Ordering.TheVariants.{Less, Equal, Greater}
use Rattle.std.proofs.lemmas.Bool.{cases_eq}
use Rattle.std.proofs.lemmas.Cmp.{}
use Rattle.std.proofs.lemmas.List.{length_push}
use Rattle.gltf_json_geometry.specs.declared.accessor.Accessor.{Accessor}
use Rattle.gltf_ranges.specs.Alike.{IsFirst}
use Rattle.gltf_ranges.specs.Ranges.{range_cmp}
use Rattle.gltf_ranges.specs.declared.range.Range.{Range}
use Rattle.gltf_ranges.proofs.Keys.{exact, equal_itself, range_at, read_the_same, have_one_range}

-- of the first n accessors
pub record AreSeen (accessors : List Accessor) (n : ℕ) (seen : BTreeMap Range ℕ) (firsts : List ℕ)
    : Type 0 where
  pub len : length firsts ≡ n
  pub each : (i j : ℕ) → slice_get firsts i ≡ Some j → IsFirst accessors i j
  pub found : (q : Range) (j : ℕ) → get range_cmp seen q ≡ Some j
      → (range_at accessors j ≡ Some q) × ((k : ℕ) → k < j → range_at accessors k ≢ Some q)
  pub absent : (q : Range) → get range_cmp seen q ≡ None
      → (k : ℕ) → k < n → range_at accessors k ≢ Some q

pub none_seen : (accessors : List Accessor) (seen : BTreeMap Range ℕ) → IsEmpty seen
    → AreSeen accessors 0 seen []
none_seen accessors seen empty = record {
  len = refl;
  each = λ i j is. cc;
  found = λ q j is. cc;
  absent = λ q is k below. absurd (omega (arith, below));
}

-- the last of a list, or one before
last_or_before : {X : Type 0} (xs : List X) (x : X) (k : ℕ) (y : X)
    → slice_get (xs ++ (x ∷ [])) k ≡ Some y
    → (slice_get xs k ≡ Some y) ⊎ ((k ≡ length xs) × (x ≡ y))
last_or_before [] x zero y is = inr (refl, cc)
last_or_before [] x (suc k) y is = cc
last_or_before (z ∷ zs) x zero y is = inl is
last_or_before (z ∷ zs) x (suc k) y is =
    ⊎_elim (λ before. inl before)
    (λ last. inr (let here : suc k ≡ length (z ∷ zs) = omega (arith, last.0) in here, last.1))
    (last_or_before zs x k y is)

below_or_last : (k n : ℕ) → k < n + 1 → (k < n) ⊎ (k ≡ n)
below_or_last k n below =
    ⊎_elim (λ last. inr last) (λ other. inl (omega (arith, below, other))) (cases_eq k n)

module _ (accessors : List Accessor) (n : ℕ) (seen next : BTreeMap Range ℕ) (firsts : List ℕ)
    (r : Range) (first : ℕ) (here : range_at accessors n ≡ Some r)
    (far : AreSeen accessors n seen firsts) (is : first ≡ unwrap_or (get range_cmp seen r) n)
    (kept : (q : Range) → get range_cmp next q
    ≡ cond (is_at (range_cmp r) q) (Some first) (get range_cmp seen q)) where
  -- where the range was seen or not, this is the first with it
  is_first_by : (before : Option ℕ) → get range_cmp seen r ≡ before
      → (range_at accessors first ≡ Some r)
      × ((k : ℕ) → k < first → range_at accessors k ≢ Some r)
  is_first_by (Some j) was =
      let same : first ≡ j = is ∙ ap (λ (o : Option ℕ). unwrap_or o n) was in
      rw same (far.found r j was)
  is_first_by None was =
      let same : first ≡ n = is ∙ ap (λ (o : Option ℕ). unwrap_or o n) was in
      rw same (here, far.absent r was)

  is_first : (range_at accessors first ≡ Some r)
      × ((k : ℕ) → k < first → range_at accessors k ≢ Some r)
  is_first = is_first_by (get range_cmp seen r) refl

  first_here : IsFirst accessors n first
  first_here = record {
    same = read_the_same accessors n first r here is_first.0;
    before = λ k below same.
        is_first.1 k below (sym (have_one_range accessors n k same) ∙ here);
  }

  each_first : (i j : ℕ) → slice_get (firsts ++ (first ∷ [])) i ≡ Some j → IsFirst accessors i j
  each_first i j at =
      ⊎_elim (λ before. far.each i j before)
      (λ last.
      let here : i ≡ n = last.0 ∙ far.len in
      rw (here, sym last.1) first_here)
      (last_or_before firsts first i j at)

  found_by : (q : Range) (o : Ordering) (j : ℕ) → range_cmp r q ≡ o
      → cond (is_eq o) (Some first) (get range_cmp seen q) ≡ Some j
      → (range_at accessors j ≡ Some q) × ((k : ℕ) → k < j → range_at accessors k ≢ Some q)
  found_by q Equal j at now =
      let same : r ≡ q = exact r q at in
      let that : first ≡ j = cc in
      rw (sym same, sym that) is_first
  found_by q Less j at now = far.found q j now
  found_by q Greater j at now = far.found q j now

  absent_by : (q : Range) (o : Ordering) → range_cmp r q ≡ o
      → cond (is_eq o) (Some first) (get range_cmp seen q) ≡ None
      → (k : ℕ) → k < n + 1 → range_at accessors k ≢ Some q
  absent_by q Equal at now k below has = cc
  absent_by q o at now k below has =
      ⊎_elim (λ before. far.absent q (let none : get range_cmp seen q ≡ None = now in none) k before
      has)
      (λ last.
      let same : r ≡ q = (let some : Some r ≡ Some q = sym here
      ∙ sym (ap (λ (m : ℕ). range_at accessors m) last) ∙ has in cc) in
      let equal : o ≡ Equal = sym at ∙ sym (ap (λ (p : Range). range_cmp r p) same)
      ∙ equal_itself r in
      cc)
      (below_or_last k n below)

  pub one_more : AreSeen accessors (n + 1) next (firsts ++ (first ∷ []))
  one_more = record {
    len = length_push firsts first ∙ (let more : length firsts + 1 ≡ n + 1
        = ap (λ (m : ℕ). m + 1) far.len in more);
    each = each_first;
    found = λ q j now. found_by q (range_cmp r q) j refl (sym (kept q) ∙ now);
    absent = λ q now. absent_by q (range_cmp r q) refl (sym (kept q) ∙ now);
  }
