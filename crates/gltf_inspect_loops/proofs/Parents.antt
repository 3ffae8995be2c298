-- The parent by the table is the parent.
use Rattle.std.proofs.Common.{◌≡◌, ◌<◌, ◌≤◌, ◌+◌, ℕ, zero, suc, Bool, true, false, Option, Some}
use Rattle.std.proofs.Common.{None}
use Rattle.std.proofs.Common.{refl, sym, ◌∙◌, ap, subst, arith, List, [], ◌∷◌, length, ◌⊎◌, inl}
use Rattle.std.proofs.Common.{inr}
use Rattle.std.specs.Prelude.{nat_eq, nat_lt, ◌&&◌, is_some}
use Rattle.std.specs.List.{list_any}
use Rattle.std.proofs.lemmas.Bool.{ltb-true, ltb-false, lt-ltb}
use Rattle.gltf_json_scene.specs.declared.scene.Node.{Node}
use Rattle.gltf_inspect_nodes.specs.Named.{children_of, all_named}
use Rattle.gltf_inspect_nodes.specs.Roots.{parents_of, led, is_child_of}
use Rattle.gltf_inspect_loops.specs.Ancestors.{has_child, node_at, IsParent}
use Rattle.gltf_inspect_loops.proofs.Tables.{last_in, later, if_some, or_else, parent-is, named-is}

-- ---- none has it as a child

later_none : (o : Option ℕ) (b : Bool) (i : ℕ) → later o (if_some b i) ≡ None
    → (o ≡ None) × (b ≡ false)
later_none None true i h = cc
later_none None false i h = (refl, refl)
later_none (Some p) b i h = cc

nowhere : (c i : ℕ) (ns : List Node) → last_in c i ns ≡ None → (q : ℕ) (m : Node)
    → node_at ns q ≡ Some m → has_child m c ≡ false
nowhere c i [] h q m there = cc
nowhere c i (n ∷ ns) h zero m there =
    let parts = later_none (last_in c (i + 1) ns) (has_child n c) i h in
    let same : n ≡ m = cc in
    ap (λ x. has_child x c) (sym same) ∙ parts.1
nowhere c i (n ∷ ns) h (suc q) m there =
    let parts = later_none (last_in c (i + 1) ns) (has_child n c) i h in
    nowhere c (i + 1) ns parts.0 q m there

-- ---- the last that has it

pub record IsLast (ns : List Node) (i p c : ℕ) : Type 0 where
  pub at : ℕ
  pub sum : p ≡ i + at
  pub within : at < length ns
  pub node : Node
  pub there : node_at ns at ≡ Some node
  pub has : has_child node c ≡ true
  pub last : (q : ℕ) (m : Node) → at < q → node_at ns q ≡ Some m → has_child m c ≡ false

behind : (c i : ℕ) (n : Node) (ns : List Node) (p : ℕ) → IsLast ns (i + 1) p c
    → IsLast (n ∷ ns) i p c
behind c i n ns p h = record {
  at = suc h.at;
  sum = let e = h.sum in let s : p ≡ i + suc h.at = omega arith in s;
  within = let w = h.within in let s : suc h.at < suc (length ns) = omega arith in s;
  node = h.node;
  there = h.there;
  has = h.has;
  last = λ q m past there. behind_last q m past there;
}
  where
    behind_last : (q : ℕ) (m : Node) → suc h.at < q → node_at (n ∷ ns) q ≡ Some m
        → has_child m c ≡ false
    behind_last zero m past there = absurd (omega (arith, past))
    behind_last (suc q) m past there = h.last q m (let l : h.at < q = omega arith in l) there

here : (c i : ℕ) (n : Node) (ns : List Node) (p : ℕ) → last_in c (i + 1) ns ≡ None
    → has_child n c ≡ true → i ≡ p → IsLast (n ∷ ns) i p c
here c i n ns p none has e = record {
  at = zero;
  sum = let s : p ≡ i + zero = omega arith in s;
  within = let s : zero < suc (length ns) = omega arith in s;
  node = n;
  there = refl;
  has = has;
  last = λ q m past there. here_last q m past there;
}
  where
    here_last : (q : ℕ) (m : Node) → zero < q → node_at (n ∷ ns) q ≡ Some m
        → has_child m c ≡ false
    here_last zero m past there = absurd (omega (arith, past))
    here_last (suc q) m past there = nowhere c (i + 1) ns none q m there

last_by : (c i : ℕ) (n : Node) (ns : List Node) (p : ℕ) (o : Option ℕ) (b : Bool)
    → last_in c (i + 1) ns ≡ o → has_child n c ≡ b
    → ((p2 : ℕ) → last_in c (i + 1) ns ≡ Some p2 → IsLast ns (i + 1) p2 c)
    → later o (if_some b i) ≡ Some p → IsLast (n ∷ ns) i p c
last_by c i n ns p (Some p2) b e f rest h =
    let same : p2 ≡ p = cc in
    behind c i n ns p (rest p (e ∙ ap (λ x. Some x) same))
last_by c i n ns p None true e f rest h =
    let same : i ≡ p = cc in here c i n ns p e f same
last_by c i n ns p None false e f rest h = cc

found : (c i : ℕ) (ns : List Node) (p : ℕ) → last_in c i ns ≡ Some p → IsLast ns i p c
found c i [] p h = cc
found c i (n ∷ ns) p h =
    last_by c i n ns p (last_in c (i + 1) ns) (has_child n c) refl refl
    (λ p2 e. found c (i + 1) ns p2 e) h

parent_of_last : (ns : List Node) (p c : ℕ) → c < length ns → IsLast ns 0 p c → IsParent ns p c
parent_of_last ns p c below h =
    let same : h.at ≡ p = let e = h.sum in omega arith in
    record {
      is_node = below;
      node = h.node;
      there = ap (λ k. node_at ns k) (sym same) ∙ h.there;
      has = h.has;
      last = λ q m past there.
          h.last q m (let l : h.at < q = omega arith in l) there;
    }

-- ---- steps by the table

-- a node that is a child has its parent there; another one itself
parent_by : (ns : List Node) (c : ℕ) (o : Option ℕ) → c < length ns → last_in c 0 ns ≡ o
    → IsParent ns (led (parents_of ns) c) c
    ⊎ ((is_some (last_in c 0 ns) ≡ false) × (led (parents_of ns) c ≡ c))
parent_by ns c (Some p) below e =
    let step : led (parents_of ns) c ≡ p = parent-is ns c below ∙ ap (λ o. or_else o c) e in
    inl (subst (λ x. IsParent ns x c) (sym step)
    (parent_of_last ns p c below (found c 0 ns p e)))
parent_by ns c None below e =
    inr (ap (λ o. is_some o) e, parent-is ns c below ∙ ap (λ o. or_else o c) e)

pub parent_or_none : (ns : List Node) (c : ℕ) → c < length ns
    → IsParent ns (led (parents_of ns) c) c
    ⊎ ((is_some (last_in c 0 ns) ≡ false) × (led (parents_of ns) c ≡ c))
parent_or_none ns c below = parent_by ns c (last_in c 0 ns) below refl

same_by : (ns : List Node) (p c : ℕ) (o : Option ℕ) → IsParent ns p c → last_in c 0 ns ≡ o
    → led (parents_of ns) c ≡ p
same_by ns p c None h e =
    let no : true ≡ false = sym h.has ∙ nowhere c 0 ns e p h.node h.there in cc
same_by ns p c (Some p2) h e =
    let is_last = found c 0 ns p2 e in
    let other = parent_of_last ns p2 c h.is_node is_last in
    let step : led (parents_of ns) c ≡ p2 = parent-is ns c h.is_node ∙ ap (λ o. or_else o c) e in
    step ∙ one_last (nat_lt p p2) (nat_lt p2 p) refl refl other
  where
    one_last : (a b : Bool) → nat_lt p p2 ≡ a → nat_lt p2 p ≡ b → IsParent ns p2 c → p2 ≡ p
    one_last true b x y other =
        let no : true ≡ false = sym other.has
        ∙ h.last p2 other.node (ltb-true p p2 x) other.there in
        cc
    one_last false true x y other =
        let no : true ≡ false = sym h.has
        ∙ other.last p h.node (ltb-true p2 p y) h.there in
        cc
    one_last false false x y other =
        let one : p2 ≤ p = ltb-false p p2 x in
        let two : p ≤ p2 = ltb-false p2 p y in
        omega arith

pub parent-led : (ns : List Node) (p c : ℕ) → IsParent ns p c → led (parents_of ns) c ≡ p
parent-led ns p c h = same_by ns p c (last_in c 0 ns) h refl

pub parent_some : (ns : List Node) (p c : ℕ) → IsParent ns p c → is_some (last_in c 0 ns) ≡ true
parent_some ns p c h = by_some (last_in c 0 ns) refl
  where
    by_some : (o : Option ℕ) → last_in c 0 ns ≡ o → is_some o ≡ true
    by_some (Some q) e = refl
    by_some None e =
        let no : true ≡ false = sym h.has ∙ nowhere c 0 ns e p h.node h.there in cc

pub child-is : (ns : List Node) (c : ℕ) → c < length ns
    → is_child_of ns c ≡ is_some (last_in c 0 ns)
child-is ns c below =
    ap (λ b. b && list_any (nat_eq c) (all_named children_of ns)) (lt-ltb c (length ns) below)
    ∙ named-is c 0 ns
