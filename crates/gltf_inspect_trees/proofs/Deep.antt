-- A node's depth is at most the number of nodes; and where each has one, no node is on a loop.
use Rattle.std.proofs.Common.{◌≡◌, ◌≢◌, ◌<◌, ◌≤◌, ◌+◌, ◌-◌, ℕ, zero, suc, Bool, true, false, ◌⊎◌}
use Rattle.std.proofs.Common.{inl, inr, refl, sym, ◌∙◌, ap, subst, arith, List, [], ◌∷◌, length}
use Rattle.std.proofs.Common.{get_or}
use Rattle.std.specs.Prelude.{nat_eq, not, ◌||◌}
use Rattle.std.specs.List.{list_any, IsDistinct, AllByRecursion}
use Rattle.std.proofs.lemmas.Bool.{eqb-true, cases_eq, cases_lt, false_from_ne_true}
use Rattle.std.proofs.lemmas.List.{same_lists, get_or_default, get_or_past}
use Rattle.std.proofs.lemmas.Map.Steps.{length-le_from_distinct_below}
use Rattle.gltf_inspect_nodes.specs.Roots.{led, are_fixed}
use Rattle.gltf_inspect_trees.specs.Climbs.{Climb, first_climb, raised, reaches}
use Rattle.gltf_inspect_trees.specs.Depths.{IsDepth, HasNoDepth, AreDepths}
use Rattle.gltf_inspect_trees.specs.Jumps.{is_above}
use Rattle.gltf_inspect_trees.specs.Trees.{is_below_from}
use Rattle.gltf_inspect_trees.proofs.Leading.{Depths, depths-of, less, none_left}
use Rattle.gltf_inspect_trees.proofs.Rooting.{ranked_rooted}
use Rattle.gltf_inspect_trees.proofs.Same.{rooted, counted_of, below_same, whole}

-- ---- a node has one depth

pub depth_none : (p : List ℕ) (v : ℕ) → led p v ≡ v → IsDepth p 0 v
unfolding IsDepth
depth_none p v h = h

pub none_depth : (p : List ℕ) (v : ℕ) → IsDepth p 0 v → led p v ≡ v
unfolding IsDepth
none_depth p v h = h

pub depth_next : (p : List ℕ) (d v : ℕ) → led p v ≢ v → IsDepth p d (led p v) → IsDepth p (suc d) v
unfolding IsDepth
depth_next p d v moved h = (moved, h)

pub next_depth : (p : List ℕ) (d v : ℕ) → IsDepth p (suc d) v → IsDepth p d (led p v)
unfolding IsDepth
next_depth p d v h = h.1

pub depth_moved : (p : List ℕ) (d v : ℕ) → IsDepth p (suc d) v → led p v ≢ v
unfolding IsDepth
depth_moved p d v h = h.0

pub same_depth : (p : List ℕ) (a b v : ℕ) → IsDepth p a v → IsDepth p b v → a ≡ b
unfolding IsDepth
same_depth p zero zero v h k = refl
same_depth p zero (suc b) v h k = absurd (k.0 h)
same_depth p (suc a) zero v h k = absurd (h.0 k)
same_depth p (suc a) (suc b) v h k = ap (λ x. suc x) (same_depth p a b (led p v) h.1 k.1)

node_by : (p : List ℕ) (v : ℕ) → led p v ≢ v → (v < length p) ⊎ (length p ≤ v) → v < length p
node_by p v moved (inl below) = below
node_by p v moved (inr past) = absurd (moved (get_or_past p v v past))

-- what leads to another one is a node
pub is_node : (p : List ℕ) (v : ℕ) → led p v ≢ v → v < length p
is_node p v moved = node_by p v moved (cases_lt v (length p))

-- ---- the nodes on the way there are as many, and differ

path : List ℕ → ℕ → ℕ → List ℕ
path p zero v = []
path p (suc d) v = v ∷ path p d (led p v)

length-path : (p : List ℕ) (d v : ℕ) → length (path p d v) ≡ d
unfolding path
length-path p zero v = refl
length-path p (suc d) v = ap (λ x. suc x) (length-path p d (led p v))

-- each of them leads to another one, and is no deeper than the first
abbrev IsOnWay : List ℕ → ℕ → ℕ → Type 0
IsOnWay p d x = (e : ℕ) × (suc e ≤ d) × IsDepth p (suc e) x

way_by : (p : List ℕ) (d v x : ℕ) (b : Bool) → nat_eq x v ≡ b → IsDepth p (suc d) v
    → (list_any (nat_eq x) (path p d (led p v)) ≡ true → IsOnWay p d x)
    → (b || list_any (nat_eq x) (path p d (led p v))) ≡ true → IsOnWay p (suc d) x
way_by p d v x true e deep rest h = (
  d,
  (let l : suc d ≤ suc d = omega arith in l),
  subst (λ y. IsDepth p (suc d) y) (sym (eqb-true x v e)) deep,
)
way_by p d v x false e deep rest h =
    let there = rest h in
    (there.0, (let few = there.1 in let l : suc there.0 ≤ suc d = omega arith in l), there.2)

on_way : (p : List ℕ) (d v x : ℕ) → IsDepth p d v → list_any (nat_eq x) (path p d v) ≡ true
    → IsOnWay p d x
unfolding path
on_way p zero v x deep h = cc
on_way p (suc d) v x deep h =
    way_by p d v x (nat_eq x v) refl deep
    (λ there. on_way p d (led p v) x (next_depth p d v deep) there) h

not_here : (x : ℕ) (b rest : Bool) → (b || rest) ≡ false → (b ≡ false) × (rest ≡ false)
not_here x true rest h = cc
not_here x false rest h = (refl, h)

all_other : (x : ℕ) (ys : List ℕ) → list_any (nat_eq x) ys ≡ false
    → AllByRecursion (λ y. nat_eq x y ≡ false) ys
all_other x [] h = tt
all_other x (y ∷ ys) h =
    let parts = not_here x (nat_eq x y) (list_any (nat_eq x) ys) h in
    (parts.0, all_other x ys parts.1)

no_way_back : (p : List ℕ) (d v : ℕ) → IsDepth p (suc d) v → IsOnWay p d v → ⊥
no_way_back p d v deep back =
    let same = same_depth p (suc d) (suc back.0) v deep back.2 in
    let few = back.1 in
    omega arith

all_differ : (p : List ℕ) (d v : ℕ) → IsDepth p d v → IsDistinct nat_eq (path p d v)
unfolding path IsDistinct
all_differ p zero v deep = tt
all_differ p (suc d) v deep = (
  all_other v (path p d (led p v))
      (false_from_ne_true (list_any (nat_eq v) (path p d (led p v))) (λ there.
      no_way_back p d v deep (on_way p d (led p v) v (next_depth p d v deep) there))),
  all_differ p d (led p v) (next_depth p d v deep),
)

pub few : (p : List ℕ) (d v : ℕ) → IsDepth p d v → d ≤ length p
few p d v deep =
    let long = length-path p d v in
    let most = length-le_from_distinct_below (path p d v) (length p) (all_differ p d v deep)
    (λ x there.
    let way = on_way p d v x deep there in
    is_node p x (depth_moved p way.0 x way.2)) in
    omega (arith, long, most)

-- ---- where no node is on a loop, each has a depth

depth_by : (p : List ℕ) (depth : ℕ → ℕ) (n v : ℕ) → Depths (led p) depth → depth v ≡ n
    → (led p v ≡ v) ⊎ (led p v ≢ v) → IsDepth p n v
unfolding IsDepth
depth_by p depth zero v h e cases = none_left (led p) depth v h e cases
depth_by p depth (suc n) v h e (inl still) = let none = h.none v still in absurd (omega arith)
depth_by p depth (suc n) v h e (inr moved) =
    let down = less (led p) depth v h in (
      moved,
      depth_by p depth n (led p v) h (let l : depth (led p v) ≡ n = omega arith in l)
          (cases_eq (led p (led p v)) (led p v)),
    )

whole_depth : (p : List ℕ) (v : ℕ) → are_fixed p (whole p).top ≡ true
    → IsDepth p (get_or (whole p).depths v 0) v
whole_depth p v h =
    let all = counted_of p in
    depth_by p (λ x. get_or (whole p).depths x 0) (get_or (whole p).depths v 0) v
    (depths-of (led p) (length p) (whole p).top (whole p).depths 18446744073709551616 all
    (rooted p (whole p).top h (sym all.long)))
    refl (cases_eq (led p v) v)

pub not_rooted : (p : List ℕ) (v : ℕ) → HasNoDepth p v → are_fixed p (whole p).top ≡ false
not_rooted p v none =
    false_from_ne_true (are_fixed p (whole p).top) (λ h.
    none (get_or (whole p).depths v 0) (whole_depth p v h))

-- ---- where each has a depth, no node is on a loop

less_deep_by : (p : List ℕ) (d e v : ℕ) → led p v ≢ v → IsDepth p d v → IsDepth p e (led p v)
    → e < d
less_deep_by p zero e v moved deep next = absurd (moved (none_depth p v deep))
less_deep_by p (suc d) e v moved deep next =
    let same = same_depth p d e (led p v) (next_depth p d v deep) next in omega arith

pub is_rooted : (p ds : List ℕ) → AreDepths p ds → length p ≤ 18446744073709551615
    → are_fixed p (whole p).top ≡ true
is_rooted p ds h most =
    ranked_rooted (λ v. get_or ds v 0) p
    (λ v moved. less_deep_by p (get_or ds v 0) (get_or ds (led p v) 0) v moved (h.each v)
    (h.each (led p v)))
    (λ v below. let deep = few p (get_or ds v 0) v (h.each v) in
    let l : get_or ds v 0 < 18446744073709551616 = omega arith in l)

pub same_depths : (p ds : List ℕ) → AreDepths p ds → are_fixed p (whole p).top ≡ true
    → ds ≡ (whole p).depths
same_depths p ds h fixed =
    let deep = (counted_of p).deep in
    same_lists ds (whole p).depths (h.long ∙ sym deep) (λ k d below.
    let in_ds : k < length ds = below in
    let long = h.long in
    let in_whole : k < length (whole p).depths = omega arith in
    get_or_default ds k d 0 in_ds
    ∙ same_depth p (get_or ds k 0) (get_or (whole p).depths k 0) k (h.each k)
    (whole_depth p k fixed)
    ∙ sym (get_or_default (whole p).depths k d 0 in_whole))

-- ---- the tests

pub below_rooted : (p : List ℕ) (c : Climb) → c ≡ raised 64 (first_climb p)
    → are_fixed p (whole p).top ≡ true → (s k : ℕ) → reaches c s k ≡ is_below_from p s k
below_rooted p c e h s k =
    ap (λ (x : Climb). reaches x s k) e
    ∙ sym (ap (λ b. not b || reaches (whole p) s k) h)
    ∙ below_same p s k

pub below_looped : (p : List ℕ) (s k : ℕ) → are_fixed p (whole p).top ≡ false
    → true ≡ is_below_from p s k
below_looped p s k h = sym (ap (λ b. not b || is_above p s k) h)
