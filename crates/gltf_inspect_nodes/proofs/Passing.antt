-- One pass over a table in order leads each to its end.
use Rattle.std.proofs.Common.{◌≡◌, ◌≢◌, ◌<◌, ◌≤◌, ◌-◌, ℕ, suc, ◌⊎◌, inl, inr}
use Rattle.std.proofs.Common.{refl, sym, ◌∙◌, ap, subst, arith, List, length, get_or, set}
use Rattle.std.proofs.lemmas.Bool.{cases_eq, cases_lt}
use Rattle.std.proofs.lemmas.List.{get_or-set_same, get_or-set_other, length-set, get_or_default}
use Rattle.gltf_inspect_nodes.specs.Roots.{led}
use Rattle.gltf_inspect_nodes.specs.Orders.{ParentsComeFirst, ParentsComeLast, ends_by}
use Rattle.gltf_inspect_nodes.proofs.Falling.{IsRanked, ends-are, led_past}

-- those of a rank below c are led to where their parents are led, and the others to their parents
pub record Passed (r : ℕ → ℕ) (p t : List ℕ) (c : ℕ) : Type 0 where
  pub long : length t ≡ length p
  pub done : (k : ℕ) → r k < c → led t (led p k) ≡ led t k
  pub rest : (k : ℕ) → c ≤ r k → led t k ≡ led p k
  pub still : (k : ℕ) → led p k ≡ k → led t k ≡ k

-- one of these is led on
record Step (r : ℕ → ℕ) (p t : List ℕ) (c i x : ℕ) : Type 0 where
  before : Passed r p t c
  at : led (set t i x) i ≡ led t (led p i)
  other : (k : ℕ) → k ≢ i → led (set t i x) k ≡ led t k
  only : (k : ℕ) → r k ≡ c → k ≡ i
  here : r i ≡ c

apart : (r : ℕ → ℕ) (k i : ℕ) → r k ≢ r i → k ≢ i
apart r k i h e = h (ap r e)

done_here : (r : ℕ → ℕ) (p t : List ℕ) (c i x : ℕ) → Step r p t c i x
    → (led p i ≡ i) ⊎ (r (led p i) < r i) → led (set t i x) (led p i) ≡ led (set t i x) i
done_here r p t c i x h (inl e) = ap (λ k. led (set t i x) k) e
done_here r p t c i x h (inr less) =
    h.other (led p i) (apart r (led p i) i (λ e. omega arith)) ∙ sym h.at

parent_other : (r : ℕ → ℕ) (p t : List ℕ) (c i x k : ℕ) → Step r p t c i x → k ≢ i → r k < c
    → (led p k ≡ k) ⊎ (r (led p k) < r k) → led p k ≢ i
parent_other r p t c i x k h ne less (inl e) same = ne (sym e ∙ same)
parent_other r p t c i x k h ne less (inr falls) same =
    let there : r (led p k) ≡ r i = ap r same in
    let at = h.here in
    omega arith

done_by : (r : ℕ → ℕ) (p t : List ℕ) (c i x k : ℕ) → IsRanked r p → Step r p t c i x
    → r k < suc c → (k ≡ i) ⊎ (k ≢ i) → led (set t i x) (led p k) ≡ led (set t i x) k
done_by r p t c i x k ranked h less (inl e) =
    subst (λ v. led (set t i x) (led p v) ≡ led (set t i x) v) (sym e)
    (done_here r p t c i x h (ranked i))
done_by r p t c i x k ranked h less (inr ne) =
    let not_c : r k ≢ c = λ e. ne (h.only k e) in
    let below : r k < c = omega arith in
    h.other (led p k) (parent_other r p t c i x k h ne below (ranked k))
    ∙ h.before.done k below
    ∙ sym (h.other k ne)

still_by : (r : ℕ → ℕ) (p t : List ℕ) (c i x k : ℕ) → Step r p t c i x → led p k ≡ k
    → (k ≡ i) ⊎ (k ≢ i) → led (set t i x) k ≡ k
still_by r p t c i x k h e (inl same) =
    let here : led p i ≡ i = subst (λ v. led p v ≡ v) same e in
    subst (λ v. led (set t i x) v ≡ v) (sym same)
    (h.at ∙ ap (λ v. led t v) here ∙ h.before.still i here)
still_by r p t c i x k h e (inr ne) = h.other k ne ∙ h.before.still k e

passed_step : (r : ℕ → ℕ) (p t : List ℕ) (c i x : ℕ) → IsRanked r p → Step r p t c i x
    → Passed r p (set t i x) (suc c)
passed_step r p t c i x ranked h = record {
  long = length-set t i x ∙ h.before.long;
  done = λ k less. done_by r p t c i x k ranked h less (cases_eq k i);
  rest = λ k more.
      let here = h.here in
      let ne : r k ≢ r i = λ e. omega arith in
      h.other k (apart r k i ne)
      ∙ h.before.rest k (let l : c ≤ r k = omega arith in l);
  still = λ k e. still_by r p t c i x k h e (cases_eq k i);
}

pub passed_more : (r : ℕ → ℕ) (p t : List ℕ) (c i x : ℕ) → IsRanked r p → Passed r p t c
    → i < length t → r i ≡ c → ((k : ℕ) → r k ≡ c → k ≡ i) → x ≡ led t (get_or t i 0)
    → Passed r p (set t i x) (suc c)
passed_more r p t c i x ranked h below here only e =
    passed_step r p t c i x ranked (record {
      before = h;
      at = get_or-set_same t i x i below
          ∙ e
          ∙ ap (λ v. led t v) (get_or_default t i 0 i below
          ∙ h.rest i (let l : c ≤ r i = omega arith in l));
      other = λ k ne. get_or-set_other t i k x k ne;
      only = only;
      here = here;
    })

pub passed_first : (r : ℕ → ℕ) (p : List ℕ) (c : ℕ)
    → ((k : ℕ) → r k < c → led p k ≡ k) → Passed r p p c
passed_first r p c none = record {
  long = refl;
  done = λ k less. ap (λ v. led p v) (none k less);
  rest = λ k more. refl;
  still = λ k e. e;
}

closed_by : (r : ℕ → ℕ) (p t : List ℕ) (c v : ℕ) → Passed r p t c
    → ((k : ℕ) → k < length p → r k < c) → (v < length p) ⊎ (length p ≤ v)
    → led t (led p v) ≡ led t v
closed_by r p t c v h all (inl below) = h.done v (all v below)
closed_by r p t c v h all (inr past) = ap (λ k. led t k) (led_past p v past)

pub passed_all : (r : ℕ → ℕ) (p t : List ℕ) (c : ℕ) → IsRanked r p → Passed r p t c
    → ((k : ℕ) → k < length p → r k < c)
    → ((k : ℕ) → k < length p → r k < 18446744073709551616) → t ≡ ends_by p
passed_all r p t c ranked h all few =
    ends-are r p t ranked
    (record {
      long = h.long;
      along = λ v. closed_by r p t c v h all (cases_lt v (length p));
      still = h.still;
    }) few

-- ---- forwards and backwards

abbrev pub forth : ℕ → ℕ
forth k = k

first_by : (a v : ℕ) → a ≤ v → (a ≡ v) ⊎ (a ≢ v) → (a ≡ v) ⊎ (a < v)
first_by a v h (inl e) = inl e
first_by a v h (inr ne) = inr (omega arith)

pub ranked_first : (p : List ℕ) → ParentsComeFirst p → IsRanked forth p
ranked_first p h v = first_by (led p v) v (h v) (cases_eq (led p v) v)

-- the last one has rank 1
abbrev pub back : ℕ → ℕ → ℕ
back n k = n - k

last_by : (a v n : ℕ) → v ≤ a → v < n → (a ≡ v) ⊎ (a ≢ v) → (a ≡ v) ⊎ (n - a < n - v)
last_by a v n h below (inl e) = inl e
last_by a v n h below (inr ne) = inr (omega arith)

ranked_by : (p : List ℕ) (v : ℕ) → ParentsComeLast p → (v < length p) ⊎ (length p ≤ v)
    → (led p v ≡ v) ⊎ (back (length p) (led p v) < back (length p) v)
ranked_by p v h (inl below) = last_by (led p v) v (length p) (h v) below (cases_eq (led p v) v)
ranked_by p v h (inr past) = inl (led_past p v past)

pub ranked_last : (p : List ℕ) → ParentsComeLast p → IsRanked (back (length p)) p
ranked_last p h v = ranked_by p v h (cases_lt v (length p))
