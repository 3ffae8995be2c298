-- Where no node is on a loop, each leads to one without a parent, and is below its ancestors and
-- itself alone.
use Rattle.std.proofs.Common.{◌≡◌, ◌<◌, ◌≤◌, ◌+◌, ◌-◌, ℕ, zero, suc, Bool, true, false, refl, sym}
use Rattle.std.proofs.Common.{◌∙◌, ap, subst, arith, List, [], ◌∷◌, length, map}
use Rattle.std.specs.Prelude.{◌↔◌, nat_eq, nat_lt, ◌||◌, not, if◌then◌else◌}
use Rattle.std.specs.List.{list_any}
use Rattle.std.proofs.lemmas.Bool.{eqb-true, eq-eqb, ltb-true, ltb-false}
use Rattle.gltf_json_scene.specs.declared.scene.Node.{Node}
use Rattle.gltf_inspect_nodes.specs.Roots.{parents_of, led, are_fixed, twice}
use Rattle.gltf_inspect_trees.specs.Climbs.{Climb, first_climb, doubled, once, raised}
use Rattle.gltf_inspect_trees.specs.Skeletons.{leads, are_rooted, is_below}
use Rattle.gltf_inspect_loops.specs.Ancestors.{IsAncestor, HasNoLoop}
use Rattle.gltf_inspect_loops.proofs.Walks.{after, after_more, after_still}
use Rattle.gltf_inspect_loops.proofs.Ends.{AreSteps, two, first_steps, twice_steps}
use Rattle.gltf_inspect_loops.proofs.Loops.{Most, up, above_after, any_at, both_true}
use Rattle.gltf_inspect_loops.proofs.Joints.{first_there, later_there, or_true}
use Rattle.gltf_inspect_loops.proofs.Apart.{ancestor, end_still}

-- ---- the tables of the climb are of 2 ^ 64 steps too

-- the steps by a table that is doubled so many times

steps_of : ℕ → ℕ
steps_of zero = 1
steps_of (suc n) = two (steps_of n)

once_by : (c : Climb) (b : Bool)
    → (if b then c else doubled c).top ≡ (if b then c.top else map (led c.top) c.top)
once_by c true = refl
once_by c false = refl

once_top : (c : Climb) → (once c).top ≡ twice c.top
unfolding once
once_top c = once_by c (are_fixed c.top c.top)

raised_steps : (ns : List Node) (n : ℕ)
    → AreSteps (up ns) (length ns) (steps_of n) (raised n (first_climb (parents_of ns))).top
unfolding raised steps_of
raised_steps ns zero = first_steps ns
raised_steps ns (suc n) =
    subst (λ t. AreSteps (up ns) (length ns) (two (steps_of n)) t)
    (sym (once_top (raised n (first_climb (parents_of ns)))))
    (twice_steps (up ns) (length ns) (steps_of n) (raised n (first_climb (parents_of ns))).top
    (raised_steps ns n))

top_steps : (ns : List Node)
    → AreSteps (up ns) (length ns) Most (raised 64 (first_climb (parents_of ns))).top
unfolding steps_of
top_steps ns = raised_steps ns 64

-- ---- and lead to nodes that lead nowhere else

all_fixed : (t ks : List ℕ) → ((x : ℕ) → list_any (nat_eq x) ks ≡ true → led t x ≡ x)
    → are_fixed t ks ≡ true
all_fixed t [] h = refl
all_fixed t (k ∷ ks) h =
    both_true (nat_eq (led t k) k) (are_fixed t ks) (eq-eqb (led t k) k (h k (first_there k ks)))
    (all_fixed t ks (λ x there. h x (later_there x k ks there)))

rooted : (ns : List Node) → length ns ≤ Most → HasNoLoop ns → are_rooted ns ≡ true
rooted ns few no_loop =
    let steps = top_steps ns in
    all_fixed (parents_of ns) (raised 64 (first_climb (parents_of ns))).top (λ x there.
    let from = any_at (raised 64 (first_climb (parents_of ns))).top x there in
    let below : from.0 < length ns = let l = from.1 in let e = steps.long in omega arith in
    subst (λ y. up ns y ≡ y) (sym (steps.each from.0) ∙ from.2)
    (end_still ns from.0 few no_loop below))

-- ---- to lead is to get there by a number of steps

leads_from : (t : List ℕ) (n d s k : ℕ) → d ≤ n → after (led t) d k ≡ s → leads t n s k ≡ true
unfolding leads after
leads_from t zero zero s k h e = eq-eqb k s e
leads_from t zero (suc d) s k h e = absurd (omega arith)
leads_from t (suc n) zero s k h e = ap (λ b. b || leads t n s (led t k)) (eq-eqb k s e)
leads_from t (suc n) (suc d) s k h e =
    ap (λ b. nat_eq k s || b)
    (leads_from t n d s (led t k) (let less : d ≤ n = omega arith in less) e)
    ∙ or_true (nat_eq k s)

steps_by : (t : List ℕ) (n s k : ℕ) (b : Bool) → nat_eq k s ≡ b
    → (leads t n s (led t k) ≡ true → (d : ℕ) × (after (led t) d (led t k) ≡ s))
    → (b || leads t n s (led t k)) ≡ true → (d : ℕ) × (after (led t) d k ≡ s)
unfolding after
steps_by t n s k true e rest h = (zero, eqb-true k s e)
steps_by t n s k false e rest h = let there = rest h in (suc there.0, there.1)

leads_steps : (t : List ℕ) (n s k : ℕ) → leads t n s k ≡ true
    → (d : ℕ) × (after (led t) d k ≡ s)
unfolding leads after
leads_steps t zero s k h = (zero, eqb-true k s h)
leads_steps t (suc n) s k h =
    steps_by t n s k (nat_eq k s) refl (λ there. leads_steps t n s (led t k) there) h

-- ---- a node is below its ancestors and itself alone

-- where there are more steps than that, those after it lead nowhere else

leads_by : (ns : List Node) (n s k : ℕ) (b : Bool) → length ns ≤ Most → HasNoLoop ns
    → k < length ns → IsAncestor ns n s k → nat_lt Most n ≡ b
    → leads (parents_of ns) Most s k ≡ true
leads_by ns n s k true few no_loop below h e =
    let more : Most < n = ltb-true Most n e in
    let sum : n ≡ Most + (n - Most) = omega arith in
    leads_from (parents_of ns) Most Most s k (let l : Most ≤ Most = omega arith in l)
    (sym (after_still (up ns) (n - Most) (after (up ns) Most k) (end_still ns k few no_loop below))
    ∙ sym (after_more (up ns) Most (n - Most) k)
    ∙ ap (λ x. after (up ns) x k) (sym sum)
    ∙ above_after ns n s k h)
leads_by ns n s k false few no_loop below h e =
    leads_from (parents_of ns) Most n s k (ltb-false Most n e) (above_after ns n s k h)

pub below-is : (ns : List Node) (s k : ℕ) → length ns ≤ Most → HasNoLoop ns → k < length ns
    → (is_below ns s k ≡ true) ↔ ((n : ℕ) × IsAncestor ns n s k)
below-is ns s k few no_loop below =
    let same : is_below ns s k ≡ leads (parents_of ns) Most s k
    = ap (λ b. not b || leads (parents_of ns) Most s k) (rooted ns few no_loop) in (
      λ h. (let there = leads_steps (parents_of ns) Most s k (sym same ∙ h) in
          ancestor ns there.0 s k below there.1),
      λ above. same
          ∙ leads_by ns above.0 s k (nat_lt Most above.0) few no_loop below above.1 refl,
    )
