-- A node to which some other leads by very many steps, and which is a child, is above itself.
use Rattle.std.proofs.Common.{◌≡◌, ◌<◌, ◌≤◌, ◌+◌, ◌-◌, ℕ, zero, suc, Bool, true, false, ◌⊎◌, inl}
use Rattle.std.proofs.Common.{inr}
use Rattle.std.proofs.Common.{refl, sym, ◌∙◌, ap, subst, arith, List, [], ◌∷◌, length, get_or}
use Rattle.std.specs.Prelude.{nat_eq, nat_lt, ◌&&◌, ◌||◌, is_some, Some}
use Rattle.std.specs.List.{list_any}
use Rattle.std.proofs.lemmas.Bool.{eqb-true, eq-eqb, ltb-true, lt-ltb}
use Rattle.std.proofs.lemmas.List.Folds.{list_any_at}
use Rattle.gltf_json_scene.specs.declared.scene.Node.{Node}
use Rattle.gltf_inspect_nodes.specs.Roots.{parents_of, led, ends_of, is_end_in, is_child_of}
use Rattle.gltf_inspect_loops.specs.Ancestors.{node_at, IsParent, IsAncestor}
use Rattle.gltf_inspect_loops.proofs.Walks.{after, after_more, after_both, after_still, times}
use Rattle.gltf_inspect_loops.proofs.Walks.{after_times}
use Rattle.gltf_inspect_loops.proofs.Orbits.{comes_back}
use Rattle.gltf_inspect_loops.proofs.Tables.{last_in}
use Rattle.gltf_inspect_loops.proofs.Parents.{parent_or_none, parent-led, parent_some, child-is}
use Rattle.gltf_inspect_loops.proofs.Ends.{ends_steps}

abbrev pub Most : ℕ
Most = 18446744073709551616

abbrev pub up : List Node → ℕ → ℕ
up ns = led (parents_of ns)

-- ---- the walk stays among the nodes

stays_by : (ns : List Node) (v : ℕ) → v < length ns
    → IsParent ns (up ns v) v ⊎ ((is_some (last_in v 0 ns) ≡ false) × (up ns v ≡ v))
    → up ns v < length ns
stays_by ns v below (inl parent) = in_list ns (up ns v) parent.node parent.there
  where
    in_list : (ms : List Node) (k : ℕ) (m : Node) → node_at ms k ≡ Some m → k < length ms
    in_list [] k m h = cc
    in_list (x ∷ xs) zero m h = omega arith
    in_list (x ∷ xs) (suc k) m h =
        let less = in_list xs k m h in omega arith
stays_by ns v below (inr none) = let same = none.1 in omega arith

stays : (ns : List Node) (v : ℕ) → v < length ns → up ns v < length ns
stays ns v below = stays_by ns v below (parent_or_none ns v below)

-- ---- from steps by the table to parents

-- a node of a walk that comes back to a child is a child
child_on : (ns : List Node) (i d : ℕ) → IsParent ns (up ns i) i → (k : ℕ)
    → after (up ns) (suc d) i ≡ i → (rest : ℕ) → after (up ns) rest k ≡ i → k < length ns
    → IsParent ns (up ns k) k
child_on ns i d child k round rest leads below = by_parent (parent_or_none ns k below)
  where
    by_parent : IsParent ns (up ns k) k ⊎ ((is_some (last_in k 0 ns) ≡ false) × (up ns k ≡ k))
        → IsParent ns (up ns k) k
    by_parent (inl parent) = parent
    by_parent (inr none) =
        let same : k ≡ i = sym (after_still (up ns) rest k none.1) ∙ leads in
        subst (λ x. IsParent ns (up ns x) x) (sym same) child

above_from : (ns : List Node) (i d : ℕ) → IsParent ns (up ns i) i
    → after (up ns) (suc d) i ≡ i → (n k : ℕ) → after (up ns) n k ≡ i → k < length ns
    → IsAncestor ns n i k
unfolding after
above_from ns i d child round zero k leads below = leads
above_from ns i d child round (suc n) k leads below = (
  up ns k,
  child_on ns i d child k round (suc n) leads below,
  above_from ns i d child round n (up ns k) leads (stays ns k below),
)

pub round_above : (ns : List Node) (i d : ℕ) → i < length ns → is_some (last_in i 0 ns) ≡ true
    → after (up ns) (suc d) i ≡ i → IsAncestor ns (suc d) i i
round_above ns i d below child round = by_parent (parent_or_none ns i below)
  where
    by_parent : IsParent ns (up ns i) i ⊎ ((is_some (last_in i 0 ns) ≡ false) × (up ns i ≡ i))
        → IsAncestor ns (suc d) i i
    by_parent (inl parent) = above_from ns i d parent round (suc d) i round below
    by_parent (inr none) = let no : true ≡ false = sym child ∙ none.0 in cc

-- ---- from parents to steps by the table

pub above_after : (ns : List Node) (n s k : ℕ) → IsAncestor ns n s k → after (up ns) n k ≡ s
unfolding after
above_after ns zero s k h = h
above_after ns (suc n) s k h =
    ap (λ x. after (up ns) n x) (parent-led ns h.0 k h.1) ∙ above_after ns n s h.0 h.2

-- ---- very many steps lead onto a loop

pub on_loop : (ns : List Node) (j i : ℕ) → length ns ≤ Most → j < length ns
    → after (up ns) Most j ≡ i → (d : ℕ) × (after (up ns) (suc d) i ≡ i)
on_loop ns j i few below leads =
    let back = comes_back (up ns) (length ns) j (stays ns) below in
    let less = back.1 in
    let sum : Most ≡ back.0 + (Most - back.0) = omega arith in
    let ends : after (up ns) (Most - back.0) (after (up ns) back.0 j) ≡ i
    = sym (after_more (up ns) back.0 (Most - back.0) j)
    ∙ ap (λ x. after (up ns) x j) (sym sum) ∙ leads in (
      back.2,
      ap (λ x. after (up ns) (suc back.2) x) (sym ends)
          ∙ after_both (up ns) (suc back.2) (Most - back.0) (after (up ns) back.0 j)
          ∙ ap (λ x. after (up ns) (Most - back.0) x) back.3
          ∙ ends,
    )

-- ---- and from a loop very many steps lead back

-- as many steps, and so many more, are whole rounds
rest_of : (n m : ℕ) → (k : ℕ) × (m + k ≡ times m (suc n))
unfolding times
rest_of n zero = (zero, refl)
rest_of n (suc m) =
    let rest = rest_of n m in (
      n + rest.0,
      (let e = rest.1 in let s : suc m + (n + rest.0) ≡ suc n + times m (suc n)
          = omega arith in s),
    )

pub from_before : (f : ℕ → ℕ) (n i m : ℕ) → after f (suc n) i ≡ i
    → (k : ℕ) × (after f m (after f k i) ≡ i)
from_before f n i m round =
    let rest = rest_of n m in (
      rest.0,
      sym (after_more f rest.0 m i)
          ∙ ap (λ x. after f x i) (let e = rest.1 in
          let s : rest.0 + m ≡ times m (suc n) = omega arith in s)
          ∙ after_times f m (suc n) i round,
    )

pub stays_after : (ns : List Node) (k v : ℕ) → v < length ns → after (up ns) k v < length ns
unfolding after
stays_after ns zero v below = below
stays_after ns (suc k) v below = stays_after ns k (up ns v) (stays ns v below)

-- ---- the two tests of a loop

and_both : (a b : Bool) → (a && b) ≡ true → (a ≡ true) × (b ≡ true)
and_both true b h = (refl, h)
and_both false b h = cc

other_default : (xs : List ℕ) (k d e : ℕ) → k < length xs → get_or xs k d ≡ get_or xs k e
other_default [] k d e h = let no : k < 0 = h in omega arith
other_default (x ∷ xs) zero d e h = refl
other_default (x ∷ xs) (suc k) d e h =
    other_default xs k d e (let s : k < length xs = omega arith in s)

any_by : (y : ℕ) (ys : List ℕ) (x : ℕ) (b : Bool) → nat_eq x y ≡ b
    → (list_any (nat_eq x) ys ≡ true → (j : ℕ) × (j < length ys) × (get_or ys j j ≡ x))
    → (b || list_any (nat_eq x) ys) ≡ true
    → (j : ℕ) × (j < length (y ∷ ys)) × (get_or (y ∷ ys) j j ≡ x)
any_by y ys x true e rest h =
    (zero, (let l : 0 < suc (length ys) = omega arith in l), sym (eqb-true x y e))
any_by y ys x false e rest h =
    let there = rest h in (
      suc there.0,
      (let less = there.1 in let l : suc there.0 < suc (length ys) = omega arith in l),
      other_default ys there.0 (suc there.0) there.0 there.1 ∙ there.2,
    )

pub any_at : (ys : List ℕ) (x : ℕ) → list_any (nat_eq x) ys ≡ true
    → (j : ℕ) × (j < length ys) × (get_or ys j j ≡ x)
any_at [] x h = cc
any_at (y ∷ ys) x h = any_by y ys x (nat_eq x y) refl (λ rest. any_at ys x rest) h

pub found_above : (ns : List Node) (i : ℕ) → length ns ≤ Most
    → (is_end_in ns (ends_of ns) i && is_child_of ns i) ≡ true
    → (n : ℕ) × IsAncestor ns (suc n) i i
found_above ns i few h =
    let ends = ends_steps ns in
    let parts = and_both (is_end_in ns (ends_of ns) i) (is_child_of ns i) h in
    let place = and_both (nat_lt i (length ns)) (list_any (nat_eq i) (ends_of ns)) parts.0 in
    let below : i < length ns = ltb-true i (length ns) place.0 in
    let from = any_at (ends_of ns) i place.1 in
    let in_nodes : from.0 < length ns = let l = from.1 in let e = ends.long in omega arith in
    let leads : after (up ns) Most from.0 ≡ i = sym (ends.each from.0) ∙ from.2 in
    let loop = on_loop ns from.0 i few in_nodes leads in
    (loop.0, round_above ns i loop.0 below (sym (child-is ns i below) ∙ parts.1) loop.1)

end_at : (ns : List Node) (i j : ℕ) → j < length ns → after (up ns) Most j ≡ i
    → list_any (nat_eq i) (ends_of ns) ≡ true
end_at ns i j below leads =
    let ends = ends_steps ns in
    let within : j < length (ends_of ns) = let e = ends.long in omega arith in
    list_any_at (nat_eq i) (ends_of ns) j j within
    (eq-eqb i (get_or (ends_of ns) j j) (sym (ends.each j ∙ leads)))

pub both_true : (a b : Bool) → a ≡ true → b ≡ true → (a && b) ≡ true
both_true true b p q = q
both_true false b p q = p

pub above_found : (ns : List Node) (i n : ℕ) → IsAncestor ns (suc n) i i
    → (is_end_in ns (ends_of ns) i && is_child_of ns i) ≡ true
above_found ns i n h =
    let below : i < length ns = h.1.is_node in
    let round : after (up ns) (suc n) i ≡ i = above_after ns (suc n) i i h in
    let before = from_before (up ns) n i Most round in
    let there : after (up ns) before.0 i < length ns = stays_after ns before.0 i below in
    let is_end = end_at ns i (after (up ns) before.0 i) there before.1 in
    let is_child : is_child_of ns i ≡ true
    = child-is ns i below ∙ parent_some ns h.0 i h.1 in
    both_true (is_end_in ns (ends_of ns) i) (is_child_of ns i)
    (both_true (nat_lt i (length ns)) (list_any (nat_eq i) (ends_of ns))
    (lt-ltb i (length ns) below) is_end) is_child
