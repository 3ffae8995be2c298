-- Depths that are found and set one after the other.
use Rattle.std.proofs.Common.{◌≡◌, ◌≢◌, ◌<◌, ◌≤◌, ◌+◌, ◌-◌, ℕ, zero, suc, Bool, true, false, ◌⊎◌}
use Rattle.std.proofs.Common.{inl, inr, refl, sym, ◌∙◌, ap, subst, arith, List, length, get_or, set}
use Rattle.std.proofs.Common.{replicate}
use Rattle.std.specs.Prelude.{nat_eq, nat_lt, not, ◌||◌, ◌&&◌}
use Rattle.std.proofs.lemmas.Bool.{eqb-true, eqb-false, ltb-false, cases_eq, cases_lt}
use Rattle.std.proofs.lemmas.List.{get_or-set_same, get_or-set_other, get_or_past}
use Rattle.gltf_inspect_nodes.specs.Roots.{led}
use Rattle.gltf_inspect_trees.specs.Depths.{IsDepth, HasNoDepth, AreDepths, AreKnown, is_known}
use Rattle.gltf_inspect_trees.proofs.Deep.{depth_none, none_depth, depth_next, next_depth}
use Rattle.gltf_inspect_trees.proofs.Deep.{depth_moved, is_node, few}

-- ---- depths that are known

known_by : (p ds : List ℕ) (v : ℕ) (a b : Bool) → nat_eq (led p v) v ≡ a
    → nat_eq (get_or ds v 0) 0 ≡ b → AreKnown p ds → (a || not b) ≡ true
    → IsDepth p (get_or ds v 0) v
known_by p ds v true true e f known h =
    subst (λ d. IsDepth p d v) (sym (eqb-true (get_or ds v 0) 0 f))
    (depth_none p v (eqb-true (led p v) v e))
known_by p ds v true false e f known h = known v (eqb-false (get_or ds v 0) 0 f)
known_by p ds v false true e f known h = cc
known_by p ds v false false e f known h = known v (eqb-false (get_or ds v 0) 0 f)

pub known_depth : (p ds : List ℕ) (v : ℕ) → AreKnown p ds → is_known p ds v ≡ true
    → IsDepth p (get_or ds v 0) v
known_depth p ds v known h =
    known_by p ds v (nat_eq (led p v) v) (nat_eq (get_or ds v 0) 0) refl refl known h

moved_by : (p : List ℕ) (v : ℕ) (a b : Bool) → nat_eq (led p v) v ≡ a → (a || b) ≡ false
    → led p v ≢ v
moved_by p v true b e h = cc
moved_by p v false b e h = eqb-false (led p v) v e

pub unknown_moved : (p ds : List ℕ) (v : ℕ) → is_known p ds v ≡ false → led p v ≢ v
unknown_moved p ds v h =
    moved_by p v (nat_eq (led p v) v) (not (nat_eq (get_or ds v 0) 0)) refl h

-- ---- one step up

-- n steps lead from the first node to v
pub record AreSteps (p : List ℕ) (first n v : ℕ) : Type 0 where
  pub most : n ≤ length p
  pub to : (e : ℕ) → IsDepth p e v → IsDepth p (n + e) first
  pub from : (d : ℕ) → IsDepth p d first → (n ≤ d) × IsDepth p (d - n) v

pub no_steps : (p : List ℕ) (first : ℕ) → AreSteps p first 0 first
no_steps p first = record {
  most = (let l : 0 ≤ length p = omega arith in l);
  to = λ e deep. subst (λ d. IsDepth p d first) (let s : e ≡ 0 + e = omega arith in s) deep;
  from = λ d deep. (
    (let l : 0 ≤ d = omega arith in l),
    subst (λ e. IsDepth p e first) (let s : d ≡ d - 0 = omega arith in s) deep,
  );
}

next_by : (p : List ℕ) (n v d m : ℕ) → led p v ≢ v → n ≤ d → d - n ≡ m → IsDepth p m v
    → (n + 1 ≤ d) × IsDepth p (d - (n + 1)) (led p v)
next_by p n v d zero moved fits e deep = absurd (moved (none_depth p v deep))
next_by p n v d (suc m) moved fits e deep = (
  (let l : n + 1 ≤ d = omega arith in l),
  subst (λ x. IsDepth p x (led p v)) (let s : m ≡ d - (n + 1) = omega arith in s)
      (next_depth p m v deep),
)

pub step_more : (p : List ℕ) (first n v : ℕ) → AreSteps p first n v → led p v ≢ v
    → n ≢ length p → AreSteps p first (n + 1) (led p v)
step_more p first n v h moved other = record {
  most = (let most = h.most in let l : n + 1 ≤ length p = omega arith in l);
  to = λ e deep.
      subst (λ d. IsDepth p d first) (let s : n + suc e ≡ n + 1 + e = omega arith in s)
      (h.to (suc e) (depth_next p e v moved deep));
  from = λ d deep.
      let there = h.from d deep in next_by p n v d (d - n) moved there.0 refl there.1;
}

-- as many steps as there are nodes lead to where no step leads on
pub too_far : (p : List ℕ) (first n v : ℕ) → AreSteps p first n v → led p v ≢ v
    → n ≡ length p → HasNoDepth p first
too_far p first n v h moved all d deep =
    let there = h.from d deep in
    let most = few p d first deep in
    moved (none_depth p v (subst (λ e. IsDepth p e v)
    (let s : d - n ≡ 0 = omega (arith, most, all) in s) there.1))

pub so_deep : (p ds : List ℕ) (first n v : ℕ) → AreSteps p first n v → AreKnown p ds
    → is_known p ds v ≡ true → IsDepth p (n + get_or ds v 0) first
so_deep p ds first n v h known e = h.to (get_or ds v 0) (known_depth p ds v known e)

-- ---- one depth more

pub deep_node : (p : List ℕ) (d v : ℕ) → 0 < d → IsDepth p d v → v < length p
deep_node p zero v some deep = absurd (omega arith)
deep_node p (suc d) v some deep = is_node p v (depth_moved p d v deep)

pub less_deep : (p : List ℕ) (d v : ℕ) → 0 < d → IsDepth p d v → IsDepth p (d - 1) (led p v)
less_deep p zero v some deep = absurd (omega arith)
less_deep p (suc d) v some deep =
    subst (λ e. IsDepth p e (led p v)) (let s : d ≡ suc d - 1 = omega arith in s)
    (next_depth p d v deep)

right_by : (p ds : List ℕ) (v d k : ℕ) → v < length ds → IsDepth p d v
    → (k ≡ v) ⊎ (k ≢ v) → (k ≢ v → IsDepth p (get_or ds k 0) k)
    → IsDepth p (get_or (set ds v d) k 0) k
right_by p ds v d k below deep (inl e) other =
    subst (λ x. IsDepth p (get_or (set ds v d) x 0) x) (sym e)
    (subst (λ x. IsDepth p x v) (sym (get_or-set_same ds v d 0 below)) deep)
right_by p ds v d k below deep (inr ne) other =
    subst (λ x. IsDepth p x k) (sym (get_or-set_other ds v k d 0 ne)) (other ne)

pub right : (p ds : List ℕ) (v d k : ℕ) → v < length ds → IsDepth p d v
    → (k ≢ v → IsDepth p (get_or ds k 0) k) → IsDepth p (get_or (set ds v d) k 0) k
right p ds v d k below deep other = right_by p ds v d k below deep (cases_eq k v) other

pub known_more : (p ds : List ℕ) (v d : ℕ) → v < length ds → IsDepth p d v → AreKnown p ds
    → AreKnown p (set ds v d)
known_more p ds v d below deep known k some =
    right p ds v d k below deep (λ ne.
    known k (λ none. some (get_or-set_other ds v k d 0 ne ∙ none)))

here_by : (p ds : List ℕ) (v k : ℕ) → (v ≡ k) ⊎ IsDepth p (get_or ds k 0) k → k ≢ v
    → IsDepth p (get_or ds k 0) k
here_by p ds v k (inl e) ne = absurd (ne (sym e))
here_by p ds v k (inr h) ne = h

pub here_more : (p ds : List ℕ) (v d k : ℕ) → v < length ds → IsDepth p d v
    → (v ≡ k) ⊎ IsDepth p (get_or ds k 0) k → IsDepth p (get_or (set ds v d) k 0) k
here_more p ds v d k below deep before =
    right p ds v d k below deep (λ ne. here_by p ds v k before ne)

-- ---- where no depth more is set

last_by : (p ds : List ℕ) (d v : ℕ) (a b : Bool) → nat_lt 0 d ≡ a
    → nat_eq (get_or ds v 0) 0 ≡ b → AreKnown p ds → IsDepth p d v → (a && b) ≡ false
    → IsDepth p (get_or ds v 0) v
last_by p ds d v a false e f known deep h = known v (eqb-false (get_or ds v 0) 0 f)
last_by p ds d v true true e f known deep h = cc
last_by p ds d v false true e f known deep h =
    let none : d ≤ 0 = ltb-false 0 d e in
    let same = eqb-true (get_or ds v 0) 0 f in
    subst (λ x. IsDepth p x v) (let s : d ≡ get_or ds v 0 = omega arith in s) deep

pub last_right : (p ds : List ℕ) (d v k : ℕ) → AreKnown p ds → IsDepth p d v
    → (nat_lt 0 d && nat_eq (get_or ds v 0) 0) ≡ false
    → (v ≡ k) ⊎ IsDepth p (get_or ds k 0) k → IsDepth p (get_or ds k 0) k
last_right p ds d v k known deep h (inr there) = there
last_right p ds d v k known deep h (inl e) =
    subst (λ x. IsDepth p (get_or ds x 0) x) e
    (last_by p ds d v (nat_lt 0 d) (nat_eq (get_or ds v 0) 0) refl refl known deep h)

-- ---- all

none_known_by : (n k : ℕ) → ◌≡◌ {A = ℕ} (get_or (replicate n 0) k 0) 0
none_known_by zero k = refl
none_known_by (suc n) zero = refl
none_known_by (suc n) (suc k) = none_known_by n k

pub none_known : (p : List ℕ) (n : ℕ) → AreKnown p (replicate n 0)
none_known p n k some = absurd (some (none_known_by n k))

all_by : (p ds : List ℕ) (k : ℕ) → length ds ≡ length p
    → ((v : ℕ) → v < length p → IsDepth p (get_or ds v 0) v)
    → (k < length p) ⊎ (length p ≤ k) → IsDepth p (get_or ds k 0) k
all_by p ds k long h (inl below) = h k below
all_by p ds k long h (inr past) =
    let past_all : length ds ≤ k = omega arith in
    subst (λ d. IsDepth p d k) (sym (get_or_past ds k 0 past_all))
    (depth_none p k (get_or_past p k k past))

pub all_depths : (p ds : List ℕ) → length ds ≡ length p
    → ((v : ℕ) → v < length p → IsDepth p (get_or ds v 0) v) → AreDepths p ds
all_depths p ds long h = record {
  long = long;
  each = λ k. all_by p ds k long h (cases_lt k (length p));
}
