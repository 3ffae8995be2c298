-- What is left of a walk: the siblings that are left at each level, the deepest level first.
use Rattle.std.proofs.Common.{◌≡◌, ℕ, ◌+◌, Bool, true, false, List, [], ◌∷◌, ◌++◌, refl, sym, ap}
use Rattle.std.proofs.Common.{◌∙◌, subst, append_assoc, Some}
use Rattle.std.specs.Prelude.{Option, Contains}
use Rattle.std.proofs.lemmas.List.{append-nil, map-append}
use Rattle.gltf_walk.specs.DepthFirst.{Visit, nodes_of, DepthFirst}

-- siblings that are left, their parent and how many ancestors they have
pub record Siblings : Type 0 where
  pub nodes : List ℕ
  pub parent : Option ℕ
  pub depth : ℕ

abbrev pub visit_of : ℕ → Option ℕ → ℕ → Bool → Visit
visit_of n p d b = record { node = n; parent = p; depth = d; again = b }

abbrev pub level_of : List ℕ → Option ℕ → ℕ → Siblings
level_of ns p d = record { nodes = ns; parent = p; depth = d }

module _ (children : ℕ → List ℕ) where
  abbrev pub Rest : List ℕ → List Siblings → List Visit → Type 0
  Rest before [] steps = steps ≡ []
  Rest before (level ∷ levels) steps =
      (here : List Visit) × (above : List Visit)
      × DepthFirst children before level.parent level.depth level.nodes here
      × Rest (before ++ nodes_of here) levels above
      × (steps ≡ here ++ above)

  before_equal : (a b : List ℕ) (levels : List Siblings) (steps : List Visit) → a ≡ b
      → Rest a levels steps → Rest b levels steps
  before_equal a b levels steps same rest =
      subst (λ (x : List ℕ). Rest x levels steps) same rest

  -- a level at which nothing is left
  pub rest_closed : (before : List ℕ) (p : Option ℕ) (d : ℕ) (levels : List Siblings)
      (steps : List Visit) → Rest before levels steps → Rest before (level_of [] p d ∷ levels) steps
  rest_closed before p d levels steps rest = (
    [],
    steps,
    DepthFirst.none,
    before_equal before (before ++ []) levels steps
        (sym (append-nil before)) rest,
    refl,
  )

  -- a node that was reached before
  pub rest_again : (before : List ℕ) (n : ℕ) (ns : List ℕ) (p : Option ℕ) (d : ℕ)
      (levels : List Siblings) (steps : List Visit) → Contains before n
      → Rest (before ++ n ∷ []) (level_of ns p d ∷ levels) steps
      → Rest before (level_of (n ∷ ns) p d ∷ levels) (visit_of n p d true ∷ steps)
  rest_again before n ns p d levels steps reached (here, above, walk, rest, is) = (
    visit_of n p d true ∷ here,
    above,
    DepthFirst.again reached walk,
    before_equal _ _ levels above (append_assoc before (n ∷ []) (nodes_of here)) rest,
    ap (λ (vs : List Visit). visit_of n p d true ∷ vs) is,
  )

  -- another node
  pub rest_first : (before : List ℕ) (n : ℕ) (ns : List ℕ) (p : Option ℕ) (d : ℕ)
      (levels : List Siblings) (steps : List Visit) → ¬ Contains before n
      → Rest (before ++ n ∷ [])
      (level_of (children n) (Some n) (d + 1) ∷ level_of ns p d ∷ levels) steps
      → Rest before (level_of (n ∷ ns) p d ∷ levels) (visit_of n p d false ∷ steps)
  rest_first before n ns p d levels steps new
      (below, others, walk_below, (after, above, walk_after, rest, others_are), is) =
      let nodes : nodes_of (below ++ after) ≡ nodes_of below ++ nodes_of after =
      map-append (λ v. v.node) below after in
      let start : ((before ++ n ∷ []) ++ nodes_of below) ++ nodes_of after
      ≡ before ++ nodes_of (visit_of n p d false ∷ below ++ after) =
      append_assoc (before ++ n ∷ []) (nodes_of below) (nodes_of after)
      ∙ append_assoc before (n ∷ []) (nodes_of below ++ nodes_of after)
      ∙ ap (λ (xs : List ℕ). before ++ n ∷ xs) (sym nodes) in (
        visit_of n p d false ∷ below ++ after,
        above,
        DepthFirst.first new walk_below walk_after,
        before_equal _ _ levels above start rest,
        ap (λ (vs : List Visit). visit_of n p d false ∷ vs)
            (is ∙ ap (λ (vs : List Visit). below ++ vs) others_are
            ∙ sym (append_assoc below after above)),
      )
