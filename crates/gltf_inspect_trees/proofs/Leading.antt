-- Which steps lead from a node to another one.
use Rattle.std.proofs.Common.{◌≡◌, ◌≢◌, ◌<◌, ◌≤◌, ◌+◌, ◌-◌, ℕ, zero, suc, Bool, true, false, ◌||◌}
use Rattle.std.proofs.Common.{◌⊎◌}
use Rattle.std.proofs.Common.{refl, sym, ◌∙◌, ap, arith, if◌then◌else◌, List, [], ◌∷◌, get_or}
use Rattle.std.proofs.Common.{length}
use Rattle.std.proofs.Common.{inl, inr}
use Rattle.std.specs.Prelude.{nat_eq, nat_lt}
use Rattle.std.proofs.lemmas.Bool.{eqb-true, eqb-false, eq-eqb, ltb-true, ltb-false}
use Rattle.gltf_inspect_nodes.specs.Roots.{led}
use Rattle.gltf_inspect_trees.specs.Skeletons.{leads}
use Rattle.gltf_inspect_trees.proofs.Steps.{after, after_more, after_still}
use Rattle.gltf_inspect_trees.proofs.Counted.{one, one-still, one-moved, Counts}

or_true : (b : Bool) → (b || true) ≡ true
or_true true = refl
or_true false = refl

-- ---- by a number of steps

pub leads-from : (t : List ℕ) (n d s k : ℕ) → d ≤ n → after (led t) d k ≡ s → leads t n s k ≡ true
unfolding leads
leads-from t zero zero s k h e = eq-eqb k s e
leads-from t zero (suc d) s k h e = absurd (omega arith)
leads-from t (suc n) zero s k h e = ap (λ b. b || leads t n s (led t k)) (eq-eqb k s e)
leads-from t (suc n) (suc d) s k h e =
    ap (λ b. nat_eq k s || b)
    (leads-from t n d s (led t k) (let less : d ≤ n = omega arith in less) e)
    ∙ or_true (nat_eq k s)

steps_by : (t : List ℕ) (n s k : ℕ) (b : Bool) → nat_eq k s ≡ b
    → (leads t n s (led t k) ≡ true → (d : ℕ) × (after (led t) d (led t k) ≡ s))
    → (b || leads t n s (led t k)) ≡ true → (d : ℕ) × (after (led t) d k ≡ s)
steps_by t n s k true e rest h = (zero, eqb-true k s e)
steps_by t n s k false e rest h = let there = rest h in (suc there.0, there.1)

pub leads-steps : (t : List ℕ) (n s k : ℕ) → leads t n s k ≡ true
    → (d : ℕ) × (after (led t) d k ≡ s)
unfolding leads
leads-steps t zero s k h = (zero, eqb-true k s h)
leads-steps t (suc n) s k h =
    steps_by t n s k (nat_eq k s) refl (λ there. leads-steps t n s (led t k) there) h

-- ---- where all lead to nodes without a parent

pub record Depths (f : ℕ → ℕ) (depth : ℕ → ℕ) : Type 0 where
  pub none : (v : ℕ) → f v ≡ v → depth v ≡ 0
  pub next : (v : ℕ) → depth v ≡ one f v + depth (f v)

pub depths-of : (f : ℕ → ℕ) (n : ℕ) (t d : List ℕ) (most : ℕ) → Counts f n t d most
    → ((v : ℕ) → f (led t v) ≡ led t v) → Depths f (λ v. get_or d v 0)
depths-of f n t d most h rooted = record {
  none = h.none;
  next = λ v.
      let counted = h.counted v in
      let ends : one f (led t v) ≡ 0 = one-still f (led t v) (rooted v) in
      let sum : get_or d v 0 ≡ one f v + get_or d (f v) 0 = omega arith in
      sum;
}

same_or_other : (a b : ℕ) (c : Bool) → nat_eq a b ≡ c → (a ≡ b) ⊎ (a ≢ b)
same_or_other a b true e = inl (eqb-true a b e)
same_or_other a b false e = inr (eqb-false a b e)

less_by : (f depth : ℕ → ℕ) (v : ℕ) → Depths f depth → (f v ≡ v) ⊎ (f v ≢ v)
    → depth (f v) ≡ depth v - 1
less_by f depth v h (inl still) =
    let none : depth v ≡ 0 = h.none v still in
    let there : depth (f v) ≡ depth v = ap depth still in
    omega arith
less_by f depth v h (inr moved) =
    let next : depth v ≡ one f v + depth (f v) = h.next v in
    let is_one : one f v ≡ 1 = one-moved f v moved in
    omega arith

pub less : (f depth : ℕ → ℕ) (v : ℕ) → Depths f depth → depth (f v) ≡ depth v - 1
less f depth v h = less_by f depth v h (same_or_other (f v) v (nat_eq (f v) v) refl)

depth_after : (f depth : ℕ → ℕ) (d v : ℕ) → Depths f depth → depth (after f d v) ≡ depth v - d
depth_after f depth zero v h = let e : depth v ≡ depth v - 0 = omega arith in e
depth_after f depth (suc d) v h =
    let rest = depth_after f depth d (f v) h in
    let first = less f depth v h in
    let e : depth (after f d (f v)) ≡ depth v - suc d = omega arith in
    e

pub none_left : (f depth : ℕ → ℕ) (v : ℕ) → Depths f depth → depth v ≡ 0
    → (f v ≡ v) ⊎ (f v ≢ v) → f v ≡ v
none_left f depth v h none (inl still) = still
none_left f depth v h none (inr moved) =
    let next : depth v ≡ one f v + depth (f v) = h.next v in
    let is_one : one f v ≡ 1 = one-moved f v moved in
    omega arith

-- as many steps as a node is deep lead to one without a parent
root_after : (f depth : ℕ → ℕ) (v : ℕ) → Depths f depth
    → f (after f (depth v) v) ≡ after f (depth v) v
root_after f depth v h =
    let w = after f (depth v) v in
    let deep = depth_after f depth (depth v) v h in
    let none : depth (after f (depth v) v) ≡ 0 = omega arith in
    none_left f depth (after f (depth v) v) h none
    (same_or_other (f (after f (depth v) v)) (after f (depth v) v)
    (nat_eq (f (after f (depth v) v)) (after f (depth v) v)) refl)

-- no more steps are needed than the node is deeper than where they lead
enough_by : (f depth : ℕ → ℕ) (d s k : ℕ) (b : Bool) → Depths f depth → after f d k ≡ s
    → nat_lt (depth k) d ≡ b → after f (depth k - depth s) k ≡ s
enough_by f depth d s k true h e past =
    let more : depth k < d = ltb-true (depth k) d past in
    let deep = depth_after f depth d k h in
    let there : depth s ≡ depth k - d = ap depth (sym e) ∙ deep in
    let number : depth k - depth s ≡ depth k = omega arith in
    let sum : d ≡ depth k + (d - depth k) = omega arith in
    ap (λ x. after f x k) number
    ∙ sym (after_still f (d - depth k) (after f (depth k) k) (root_after f depth k h))
    ∙ sym (after_more f (depth k) (d - depth k) k)
    ∙ ap (λ x. after f x k) (sym sum)
    ∙ e
enough_by f depth d s k false h e past =
    let fits : d ≤ depth k = ltb-false (depth k) d past in
    let deep = depth_after f depth d k h in
    let there : depth s ≡ depth k - d = ap depth (sym e) ∙ deep in
    let number : depth k - depth s ≡ d = omega arith in
    ap (λ x. after f x k) number ∙ e

pub enough : (f depth : ℕ → ℕ) (d s k : ℕ) → Depths f depth → after f d k ≡ s
    → after f (depth k - depth s) k ≡ s
enough f depth d s k h e = enough_by f depth d s k (nat_lt (depth k) d) h e refl
