-- The table of parents has the last node that names each.
use Rattle.std.proofs.Common.{◌≡◌, ◌<◌, ◌+◌, ℕ, zero, suc, Bool, true, false, Option, Some}
use Rattle.std.proofs.Common.{None}
use Rattle.std.proofs.Common.{refl, ◌∙◌, ap, arith, List, [], ◌∷◌, length, get_or, set}
use Rattle.std.specs.Prelude.{nat_eq, if◌then◌else◌, ◌||◌, is_some}
use Rattle.std.specs.List.{list_any}
use Rattle.std.proofs.lemmas.Bool.{eqb-true, eqb-false}
use Rattle.std.proofs.lemmas.Grind.{get_or-set_at}
use Rattle.std.proofs.lemmas.List.{get_or-set_other, length-set}
use Rattle.std.proofs.lemmas.List.Folds.{list_any-append}
use Rattle.gltf_json_scene.specs.declared.scene.Node.{Node}
use Rattle.gltf_inspect_nodes.specs.Named.{children_of, all_named}
use Rattle.gltf_inspect_nodes.specs.Roots.{numbers, with_parent, with_parents, parents_of, led}
use Rattle.gltf_inspect_loops.specs.Ancestors.{has_child}

abbrev pub later : Option ℕ → Option ℕ → Option ℕ
later None first = first
later (Some p) first = Some p

abbrev pub if_some : Bool → ℕ → Option ℕ
if_some true i = Some i
if_some false i = None

-- the last of the nodes, from the node i on, that has the child c
abbrev pub last_in : ℕ → ℕ → List Node → Option ℕ
last_in c i [] = None
last_in c i (n ∷ ns) = later (last_in c (i + 1) ns) (if_some (has_child n c) i)

abbrev pub or_else : Option ℕ → ℕ → ℕ
or_else None d = d
or_else (Some p) d = p

-- ---- one node

length-one : (t : List ℕ) (i : ℕ) (cs : List ℕ) → length (with_parent t i cs) ≡ length t
length-one t i [] = refl
length-one t i (x ∷ xs) = length-one (set t x i) i xs ∙ length-set t x i

set_by : (t : List ℕ) (i c d x : ℕ) (b : Bool) (rest : Bool) → c < length t → nat_eq c x ≡ b
    → (if rest then i else get_or (set t x i) c d) ≡ (if b || rest then i else get_or t c d)
set_by t i c d x true true below e = refl
set_by t i c d x true false below e =
    let same : c ≡ x = eqb-true c x e in
    get_or-set_at t x c i d same (omega (arith, same, below))
set_by t i c d x false true below e = refl
set_by t i c d x false false below e = get_or-set_other t x c i d (eqb-false c x e)

one : (t : List ℕ) (i c d : ℕ) (cs : List ℕ) → c < length t
    → get_or (with_parent t i cs) c d ≡ (if list_any (nat_eq c) cs then i else get_or t c d)
one t i c d [] below = refl
one t i c d (x ∷ xs) below =
    one (set t x i) i c d xs (let l : c < length (set t x i) = rw (length-set t x i) below in l)
    ∙ set_by t i c d x (nat_eq c x) (list_any (nat_eq c) xs) below refl

-- ---- all nodes

more_by : (o : Option ℕ) (b : Bool) (i other : ℕ)
    → or_else o (if b then i else other) ≡ or_else (later o (if_some b i)) other
more_by None true i other = refl
more_by None false i other = refl
more_by (Some p) b i other = refl

all : (t : List ℕ) (i c d : ℕ) (ns : List Node) → c < length t
    → get_or (with_parents t i ns) c d ≡ or_else (last_in c i ns) (get_or t c d)
all t i c d [] below = refl
all t i c d (n ∷ ns) below =
    all (with_parent t i (children_of n)) (i + 1) c d ns
    (let l : c < length (with_parent t i (children_of n))
    = rw (length-one t i (children_of n)) below in l)
    ∙ ap (λ x. or_else (last_in c (i + 1) ns) x) (one t i c d (children_of n) below)
    ∙ more_by (last_in c (i + 1) ns) (has_child n c) i (get_or t c d)

pub length-all : (t : List ℕ) (i : ℕ) (ns : List Node) → length (with_parents t i ns) ≡ length t
length-all t i [] = refl
length-all t i (n ∷ ns) =
    length-all (with_parent t i (children_of n)) (i + 1) ns ∙ length-one t i (children_of n)

pub length-numbers : (i : ℕ) (ns : List Node) → length (numbers i ns) ≡ length ns
length-numbers i [] = refl
length-numbers i (n ∷ ns) = ap (λ x. suc x) (length-numbers (i + 1) ns)

numbers_at : (i : ℕ) (ns : List Node) (c d : ℕ) → c < length ns → get_or (numbers i ns) c d ≡ i + c
numbers_at i [] c d h = let no : c < 0 = h in omega arith
numbers_at i (n ∷ ns) zero d h = let e : i ≡ i + zero = omega arith in e
numbers_at i (n ∷ ns) (suc c) d h =
    numbers_at (i + 1) ns c d (let l : c < length ns = omega arith in l)
    ∙ (let e : (i + 1) + c ≡ i + suc c = omega arith in e)

pub length-parents : (ns : List Node) → length (parents_of ns) ≡ length ns
length-parents ns = length-all (numbers 0 ns) 0 ns ∙ length-numbers 0 ns

pub parent-is : (ns : List Node) (c : ℕ) → c < length ns
    → led (parents_of ns) c ≡ or_else (last_in c 0 ns) c
parent-is ns c below =
    all (numbers 0 ns) 0 c c ns
    (let l : c < length (numbers 0 ns) = rw (length-numbers 0 ns) below in l)
    ∙ ap (λ x. or_else (last_in c 0 ns) x)
    (numbers_at 0 ns c c below ∙ (let e : 0 + c ≡ c = omega arith in e))

-- ---- which are children

some_by : (o : Option ℕ) (b : Bool) (i : ℕ) → (b || is_some o) ≡ is_some (later o (if_some b i))
some_by None true i = refl
some_by None false i = refl
some_by (Some p) true i = refl
some_by (Some p) false i = refl

pub named-is : (c i : ℕ) (ns : List Node)
    → list_any (nat_eq c) (all_named children_of ns) ≡ is_some (last_in c i ns)
named-is c i [] = refl
named-is c i (n ∷ ns) =
    list_any-append (nat_eq c) (children_of n) (all_named children_of ns)
    ∙ ap (λ b. has_child n c || b) (named-is c (i + 1) ns)
    ∙ some_by (last_in c (i + 1) ns) (has_child n c) i
