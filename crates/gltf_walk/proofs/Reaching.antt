-- A walk gives each node that can be reached, once; and there is one walk.
use Rattle.std.proofs.Common.{◌≡◌, ℕ, zero, suc, Bool, true, false, List, [], ◌∷◌, ◌++◌}
use Rattle.std.proofs.Common.{refl, sym, ap, subst, inl, inr, None, arith}
use Rattle.std.specs.Prelude.{Option, Contains, ◌⊎◌, if◌then◌else◌}
use Rattle.std.proofs.lemmas.List.{map-append}
use Rattle.std.proofs.lemmas.List.Elements.{Contains-append_left, Contains-append_right}
use Rattle.std.proofs.lemmas.List.Elements.{Contains-append_cases, Contains-push}
use Rattle.std.proofs.lemmas.List.Elements.{Contains-push_cases}
use Rattle.gltf_walk.specs.DepthFirst.{Visit, nodes_of, DepthFirst}
use Rattle.gltf_walk.specs.DepthFirst.DepthFirst.{none, again, first}
use Rattle.gltf_walk.specs.Reached.{IsBelow, firsts, NoneTwice, GivesEachOnce}
use Rattle.gltf_walk.specs.Reached.IsBelow.{root, child}

contains_head : (n : ℕ) (ns : List ℕ) → Contains (n ∷ ns) n
contains_head n ns = (zero, omega arith, refl)

contains_tail : (n k : ℕ) (ns : List ℕ) → Contains ns k → Contains (n ∷ ns) k
contains_tail n k ns (i, inside, is) = (suc i, omega arith, is)

contains_cases : (n k : ℕ) (ns : List ℕ) → Contains (n ∷ ns) k → (n ≡ k) ⊎ Contains ns k
contains_cases n k ns (zero, inside, is) = inl is
contains_cases n k ns (suc i, inside, is) = inr (i, omega arith, is)

contains_none : (k : ℕ) → Contains [] k → ⊥
contains_none k (i, inside, is) = omega arith

chosen : (b : Bool) (n : ℕ) (xs ys zs : List ℕ) → xs ≡ ys ++ zs
    → (if b then xs else n ∷ xs) ≡ (if b then ys else n ∷ ys) ++ zs
chosen true n xs ys zs is = is
chosen false n xs ys zs is = ap (λ (ns : List ℕ). n ∷ ns) is

firsts-append : (vs ws : List Visit) → firsts (vs ++ ws) ≡ firsts vs ++ firsts ws
firsts-append [] ws = refl
firsts-append (v ∷ vs) ws =
    chosen v.again v.node (firsts (vs ++ ws)) (firsts vs) (firsts ws) (firsts-append vs ws)

-- of the nodes of the steps below and after
in_firsts : (vs ws : List Visit) (k : ℕ) → Contains (firsts (vs ++ ws)) k
    → Contains (firsts vs) k ⊎ Contains (firsts ws) k
in_firsts vs ws k has = Contains-append_cases (firsts vs) (firsts ws) k
    (subst (λ (ns : List ℕ). Contains ns k) (firsts-append vs ws) has)

firsts_left : (vs ws : List Visit) (k : ℕ) → Contains (firsts vs) k → Contains (firsts (vs ++ ws)) k
firsts_left vs ws k has = subst (λ (ns : List ℕ). Contains ns k) (sym (firsts-append vs ws))
    (Contains-append_left (firsts vs) (firsts ws) k has)

firsts_right : (vs ws : List Visit) (k : ℕ) → Contains (firsts ws) k
    → Contains (firsts (vs ++ ws)) k
firsts_right vs ws k has = subst (λ (ns : List ℕ). Contains ns k) (sym (firsts-append vs ws))
    (Contains-append_right (firsts vs) (firsts ws) k has)

in_nodes : (vs ws : List Visit) (k : ℕ) → Contains (nodes_of (vs ++ ws)) k
    → Contains (nodes_of vs) k ⊎ Contains (nodes_of ws) k
in_nodes vs ws k has = Contains-append_cases (nodes_of vs) (nodes_of ws) k
    (subst (λ (ns : List ℕ). Contains ns k) (map-append (λ v. v.node) vs ws) has)

nodes_right : (vs ws : List Visit) (k : ℕ) → Contains (nodes_of ws) k
    → Contains (nodes_of (vs ++ ws)) k
nodes_right vs ws k has =
    subst (λ (ns : List ℕ). Contains ns k) (sym (map-append (λ v. v.node) vs ws))
    (Contains-append_right (nodes_of vs) (nodes_of ws) k has)

chosen_node : (b : Bool) (n k : ℕ) (firsts_of nodes : List ℕ)
    → (Contains firsts_of k → Contains nodes k)
    → Contains (if b then firsts_of else n ∷ firsts_of) k → Contains (n ∷ nodes) k
chosen_node true n k firsts_of nodes others has = contains_tail n k nodes (others has)
chosen_node false n k firsts_of nodes others has =
    elim (contains_cases n k firsts_of has) [
      | inl same ↦ subst (λ (j : ℕ). Contains (n ∷ nodes) j) same (contains_head n nodes)
      | inr more ↦ contains_tail n k nodes (others more)
    ]

firsts_are_nodes : (vs : List Visit) (k : ℕ) → Contains (firsts vs) k → Contains (nodes_of vs) k
firsts_are_nodes [] k has = has
firsts_are_nodes (v ∷ vs) k has =
    chosen_node v.again v.node k (firsts vs) (nodes_of vs) (firsts_are_nodes vs k) has

twice-append : (ms ns : List ℕ) → NoneTwice ms → NoneTwice ns
    → ((k : ℕ) → Contains ms k → ¬ Contains ns k) → NoneTwice (ms ++ ns)
twice-append [] ns left right apart = right
twice-append (m ∷ ms) ns left right apart = (
  λ has. elim (Contains-append_cases ms ns m has) [
    | inl here ↦ left.0 here
    | inr there ↦ apart m (contains_head m ms) there
  ],
  twice-append ms ns left.1 right (λ k has. apart k (contains_tail m k ms has)),
)

module _ (children : ℕ → List ℕ) where
  more_roots : (xs ys : List ℕ) → ((k : ℕ) → Contains xs k → Contains ys k) → {n : ℕ}
      → IsBelow children xs n → IsBelow children ys n
  more_roots xs ys more (root has) = root (more _ has)
  more_roots xs ys more (child below has) = child (more_roots xs ys more below) has

  through : (ys : List ℕ) (m : ℕ) → IsBelow children ys m → {n : ℕ}
      → IsBelow children (children m) n → IsBelow children ys n
  through ys m above (root has) = child above has
  through ys m above (child below has) = child (through ys m above below) has

  sound : {before : List ℕ} {p : Option ℕ} {d : ℕ} {ns : List ℕ} {steps : List Visit}
      → DepthFirst children before p d ns steps → (k : ℕ) → Contains (firsts steps) k
      → IsBelow children ns k
  sound none k has = absurd (contains_none k has)
  sound (again {node = n} {others = os} reached walk) k has =
      more_roots os (n ∷ os) (λ j. contains_tail n j os) (sound walk k has)
  sound (first {node = n} {others = os} {below = bs} {after = ws} new inner outer) k has =
      elim (contains_cases n k (firsts (bs ++ ws)) has) [
        | inl same ↦ root (subst (λ (j : ℕ). Contains (n ∷ os) j) same (contains_head n os))
        | inr more ↦ elim (in_firsts bs ws k more) [
          | inl below ↦ through (n ∷ os) n (root (contains_head n os)) (sound inner k below)
          | inr after ↦ more_roots os (n ∷ os) (λ j. contains_tail n j os) (sound outer k after)
        ]
      ]

  -- of a node that was reached before, or is this one, or is first below this one
  so_far : (before : List ℕ) (n k : ℕ) (bs ws : List Visit)
      → Contains (before ++ n ∷ []) k ⊎ Contains (firsts bs) k
      → Contains before k ⊎ Contains (n ∷ firsts (bs ++ ws)) k
  so_far before n k bs ws has =
      elim has [
        | inl earlier ↦ elim (Contains-push_cases before n k earlier) [
          | inl old ↦ inl old
          | inr same ↦ inr (subst (λ (j : ℕ). Contains (n ∷ firsts (bs ++ ws)) j) same
              (contains_head n (firsts (bs ++ ws))))
        ]
        | inr below ↦ inr (contains_tail n k (firsts (bs ++ ws)) (firsts_left bs ws k below))
      ]

  again_before : (before : List ℕ) (n k : ℕ) (vs : List Visit) → Contains before n
      → Contains (before ++ n ∷ []) k ⊎ Contains (firsts vs) k
      → Contains before k ⊎ Contains (firsts vs) k
  again_before before n k vs reached has =
      elim has [
        | inl earlier ↦ elim (Contains-push_cases before n k earlier) [
          | inl old ↦ inl old
          | inr same ↦ inl (subst (λ (j : ℕ). Contains before j) same reached)
        ]
        | inr later ↦ inr later
      ]

  -- each node of a step was reached before, or is first in a step
  given : {before : List ℕ} {p : Option ℕ} {d : ℕ} {ns : List ℕ} {steps : List Visit}
      → DepthFirst children before p d ns steps → (k : ℕ) → Contains (nodes_of steps) k
      → Contains before k ⊎ Contains (firsts steps) k
  given none k has = absurd (contains_none k has)
  given (again {before = before} {node = n} {after = ws} reached walk) k has =
      elim (contains_cases n k (nodes_of ws) has) [
        | inl same ↦ inl (subst (λ (j : ℕ). Contains before j) same reached)
        | inr more ↦ again_before before n k ws reached (given walk k more)
      ]
  given (first {before = before} {node = n} {below = bs} {after = ws} new inner outer) k has =
      elim (contains_cases n k (nodes_of (bs ++ ws)) has) [
        | inl same ↦ inr (subst (λ (j : ℕ). Contains (n ∷ firsts (bs ++ ws)) j) same
            (contains_head n (firsts (bs ++ ws))))
        | inr more ↦ elim (in_nodes bs ws k more) [
          | inl below ↦ so_far before n k bs ws (given inner k below)
          | inr after ↦ elim (given outer k after) [
            | inl earlier ↦ so_far before n k bs ws
                (elim (Contains-append_cases (before ++ n ∷ []) (nodes_of bs) k earlier) [
                  | inl old ↦ inl old
                  | inr below ↦ given inner k below
                ])
            | inr later ↦ inr (contains_tail n k (firsts (bs ++ ws))
                (firsts_right bs ws k later))
          ]
        ]
      ]

  -- each sibling is in a step
  siblings_given : {before : List ℕ} {p : Option ℕ} {d : ℕ} {ns : List ℕ} {steps : List Visit}
      → DepthFirst children before p d ns steps → (k : ℕ) → Contains ns k
      → Contains (nodes_of steps) k
  siblings_given none k has = has
  siblings_given (again {node = n} {others = os} {after = ws} reached walk) k has =
      elim (contains_cases n k os has) [
        | inl same ↦ subst (λ (j : ℕ). Contains (n ∷ nodes_of ws) j) same
            (contains_head n (nodes_of ws))
        | inr more ↦ contains_tail n k (nodes_of ws) (siblings_given walk k more)
      ]
  siblings_given (first {node = n} {others = os} {below = bs} {after = ws} new inner outer) k has =
      elim (contains_cases n k os has) [
        | inl same ↦ subst (λ (j : ℕ). Contains (n ∷ nodes_of (bs ++ ws)) j) same
            (contains_head n (nodes_of (bs ++ ws)))
        | inr more ↦ contains_tail n k (nodes_of (bs ++ ws))
            (nodes_right bs ws k (siblings_given outer k more))
      ]

  -- each child of a node that is first in a step was reached before, or is first in a step
  children_given : {before : List ℕ} {p : Option ℕ} {d : ℕ} {ns : List ℕ} {steps : List Visit}
      → DepthFirst children before p d ns steps → (m k : ℕ) → Contains (firsts steps) m
      → Contains (children m) k → Contains before k ⊎ Contains (firsts steps) k
  children_given none m k has named = absurd (contains_none m has)
  children_given (again {before = before} {node = n} {after = ws} reached walk) m k has named =
      again_before before n k ws reached (children_given walk m k has named)
  children_given (first {before = before} {node = n} {below = bs} {after = ws} new inner outer) m k
      has named =
      elim (contains_cases n m (firsts (bs ++ ws)) has) [
        | inl same ↦ so_far before n k bs ws (given inner k (siblings_given inner k
            (subst (λ (j : ℕ). Contains (children j) k) (sym same) named)))
        | inr more ↦ elim (in_firsts bs ws m more) [
          | inl below ↦ so_far before n k bs ws (children_given inner m k below named)
          | inr after ↦ elim (children_given outer m k after named) [
            | inl earlier ↦ so_far before n k bs ws
                (elim (Contains-append_cases (before ++ n ∷ []) (nodes_of bs) k earlier) [
                  | inl old ↦ inl old
                  | inr below ↦ given inner k below
                ])
            | inr later ↦ inr (contains_tail n k (firsts (bs ++ ws))
                (firsts_right bs ws k later))
          ]
        ]
      ]

  -- what is first in a step was not reached before
  new_ones : {before : List ℕ} {p : Option ℕ} {d : ℕ} {ns : List ℕ} {steps : List Visit}
      → DepthFirst children before p d ns steps → (k : ℕ) → Contains (firsts steps) k
      → Contains before k → ⊥
  new_ones none k has old = contains_none k has
  new_ones (again {before = before} {node = n} reached walk) k has old =
      new_ones walk k has (Contains-append_left before (n ∷ []) k old)
  new_ones (first {before = before} {node = n} {below = bs} {after = ws} new inner outer) k has
      old =
      elim (contains_cases n k (firsts (bs ++ ws)) has) [
        | inl same ↦ new (subst (λ (j : ℕ). Contains before j) (sym same) old)
        | inr more ↦ elim (in_firsts bs ws k more) [
          | inl below ↦ new_ones inner k below (Contains-append_left before (n ∷ []) k old)
          | inr after ↦ new_ones outer k after (Contains-append_left (before ++ n ∷ [])
              (nodes_of bs) k (Contains-append_left before (n ∷ []) k old))
        ]
      ]

  once : {before : List ℕ} {p : Option ℕ} {d : ℕ} {ns : List ℕ} {steps : List Visit}
      → DepthFirst children before p d ns steps → NoneTwice (firsts steps)
  once none = tt
  once (again reached walk) = once walk
  once (first {before = before} {node = n} {below = bs} {after = ws} new inner outer) = (
    λ has. elim (in_firsts bs ws n has) [
      | inl below ↦ new_ones inner n below (Contains-push before n)
      | inr after ↦ new_ones outer n after (Contains-append_left (before ++ n ∷ []) (nodes_of bs) n
          (Contains-push before n))
    ],
    subst NoneTwice (sym (firsts-append bs ws))
        (twice-append (firsts bs) (firsts ws) (once inner) (once outer) (λ k below after.
        new_ones outer k after (Contains-append_right (before ++ n ∷ []) (nodes_of bs) k
        (firsts_are_nodes bs k below)))),
  )

  all_below : (roots : List ℕ) (steps : List Visit)
      → DepthFirst children [] None 0 roots steps → {n : ℕ} → IsBelow children roots n
      → Contains (firsts steps) n
  all_below roots steps walk {n = n} (root has) =
      elim (given walk n (siblings_given walk n has)) [
        | inl old ↦ absurd (contains_none n old)
        | inr here ↦ here
      ]
  all_below roots steps walk {n = n} (child {m = m} below has) =
      elim (children_given walk m n (all_below roots steps walk below) has) [
        | inl old ↦ absurd (contains_none n old)
        | inr here ↦ here
      ]

  pub each_once : (roots : List ℕ) (steps : List Visit)
      → DepthFirst children [] None 0 roots steps → GivesEachOnce children roots steps
  each_once roots steps walk = record {
    reached = λ n. (λ has. sound walk n has, λ below. all_below roots steps walk below);
    once = once walk;
  }

  joined : (v : Visit) (xs bs cs ds : List Visit) → xs ≡ cs → bs ≡ ds → v ∷ xs ++ bs ≡ v ∷ cs ++ ds
  joined v xs bs cs ds same others = cc

  pub one_walk : {before : List ℕ} {p : Option ℕ} {d : ℕ} {ns : List ℕ} {steps others : List Visit}
      → DepthFirst children before p d ns steps → DepthFirst children before p d ns others
      → steps ≡ others
  one_walk none none = refl
  one_walk (again {parent = p} {depth = d} {node = n} reached walk) (again reached' walk') =
      ap (λ (vs : List Visit). record { node = n; parent = p; depth = d; again = true } ∷ vs)
      (one_walk walk walk')
  one_walk (again reached walk) (first new inner outer) = absurd (new reached)
  one_walk (first new inner outer) (again reached walk) = absurd (new reached)
  one_walk (first {before = before} {parent = p} {depth = d} {node = n} {others = os} {below = bs}
      {after = ws} new inner outer)
      (first {below = bs'} {after = ws'} new' inner' outer') =
      let below : bs ≡ bs' = one_walk inner inner' in
      let moved : DepthFirst children ((before ++ n ∷ []) ++ nodes_of bs) p d os ws' =
      subst (λ (vs : List Visit).
      DepthFirst children ((before ++ n ∷ []) ++ nodes_of vs) p d os ws') (sym below) outer' in
      joined (record { node = n; parent = p; depth = d; again = false }) bs ws bs' ws' below
      (one_walk outer moved)
