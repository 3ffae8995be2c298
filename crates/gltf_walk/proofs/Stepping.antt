-- What the loop of a walk keeps, of the values of the code.
use Rattle.std.proofs.Common.{◌≡◌, ◌≢◌, ℕ, suc, ◌+◌, ◌<◌, ◌≤◌, Bool, true, false, List, [], ◌∷◌}
use Rattle.std.proofs.Common.{◌++◌, map, length, refl, sym, ap, ◌∙◌, subst, inl, inr, Some, None}
use Rattle.std.proofs.Common.{arith, length-append}
use Rattle.std.specs.Prelude.{Option, All, IsSomeAnd, slice_get, slice_range, slice_index_or}
use Rattle.std.specs.Prelude.{reverse}
use Rattle.std.proofs.lemmas.Bool.{cases_eq}
use Rattle.std.proofs.lemmas.List.{map-append, reverse-append}
use Rattle.std.proofs.lemmas.List.Elements.{All-push, All-pop, All-weaker, All-nil}
use Rattle.std.specs.Option.{option_map}
use Rattle.std.proofs.lemmas.Option.{slice_get-map, get_or_from_slice_get}
use Rattle.gltf_json.specs.declared.root.Root.{Root}
use Rattle.gltf_rules.specs.declared.records.Records.{Ghosts}
use Rattle.gltf_handles.specs.Lists.{position}
use Rattle.gltf_handles.specs.Positions.{Position, Nth}
use Rattle.gltf_scene.specs.Nodes.{IsNode, IsNamed, AreNamed, node_handle}
use Rattle.gltf_scene.specs.declared.scene.Node.{Node}
use Rattle.gltf_scene.specs.declared.scene.iter.NamedNodes.{NamedNodes}
use Rattle.gltf_walk.specs.Walks.{children_lists, children_of, document_of, nodes_left, visit}
use Rattle.gltf_walk.specs.Walks.{IsStep, IsWalk}
use Rattle.gltf_walk.specs.declared.step.Step.{Step}
use Rattle.gltf_handles.specs.declared.list.Indexed.{Ghosts as Indexes}
use Rattle.gltf_handles.specs.declared.list.List.{List as Handles}
use Rattle.gltf_walk.proofs.Costs.{cost, cost_reached, cost_same, open_cost}
use Rattle.gltf_walk.proofs.Rests.{Siblings, level_of}
use Rattle.gltf_walk.proofs.Slices.{left_first, none_left, all_left}
use Rattle.gltf_walk.proofs.Keeping.{Kept, Marks, kept_start, kept_closed, kept_again, kept_first}
use Rattle.gltf_walk.proofs.Keeping.{kept_whole}

-- which numbers are marked
abbrev pub is_marked : List Bool → ℕ → Bool
is_marked reached k = slice_index_or reached k false

-- what the code keeps of a level
abbrev pub Level : (D : Type 0) (G : Ghosts D) → Indexes (NamedNodes D G) (Node D G) → Type 0
Level D G I = Handles (NamedNodes D G) (Node D G) I × Option ℕ × ℕ

module _ {D : Type 0} {G : Ghosts D} where
  -- a node is taken from the siblings of a level
  pub record Taken (r : Root) (old new : Position (NamedNodes D G)) (node : Node D G) : Type 0 where
    pub left : nodes_left old ≡ (node_handle node).index ∷ nodes_left new
    pub document : document_of new ≡ r
    pub is_node : IsNode r (node_handle node).index node

  named_at : (r : Root) (o : Option ℕ) (node : Node D G) → IsSomeAnd o (λ k. IsNode r k node)
      → (o ≡ Some (node_handle node).index) × IsNode r (node_handle node).index node
  named_at r None node h = absurd h
  named_at r (Some k) node h = (
    ap Some (sym h.index),
    record {
      document = h.document;
      index = refl;
      json = ap (slice_get r.nodes.items) h.index ∙ h.json;
    },
  )

  pub taken : (r : Root) (old new : Position (NamedNodes D G)) (node : Node D G)
      → document_of old ≡ r
      → Nth (λ s i n. IsNamed (G.root s.document.now) s.nodes.now i n) old 0 (Some node) new
      → Taken r old new node
  taken r old new node document nth =
      let here : old.next + 0 ≡ old.next = omega arith in
      let named : IsNamed (document_of old) old.source.nodes.now old.next node =
      subst (λ (k : ℕ). IsNamed (document_of old) old.source.nodes.now k node) here nth.item.1 in
      let at = named_at (document_of old) (slice_get old.source.nodes.now old.next) node named in
      record {
        left =
            left_first old.source.nodes.now old.next old.end (node_handle node).index
            (omega arith) at.0
            ∙ ap (λ (k : ℕ). (node_handle node).index ∷ slice_range old.source.nodes.now k old.end)
            (omega arith)
            ∙ ap (λ (k : ℕ). (node_handle node).index ∷ slice_range old.source.nodes.now new.next k)
            (sym nth.end)
            ∙ ap (λ (s : NamedNodes D G). (node_handle node).index
            ∷ slice_range s.nodes.now new.next new.end) (sym nth.source);
        document = ap (λ (s : NamedNodes D G). G.root s.document.now) nth.source ∙ document;
        is_node = subst (λ (x : Root). IsNode x (node_handle node).index node) document at.1;
      }

  pub nothing_left : (old new : Position (NamedNodes D G))
      → Nth {A = Node D G}
      (λ s i n. IsNamed {D = D} {G = G} (G.root s.document.now) s.nodes.now i n) old 0 None new
      → nodes_left old ≡ []
  nothing_left old new nth = none_left old.source.nodes.now old.next old.end (omega arith)

  -- the children of a node are all left
  children_all : (node : Node D G) (p : Position (NamedNodes D G))
      → AreNamed (node_handle node).document (node_handle node).json.children.items p
      → nodes_left p ≡ (node_handle node).json.children.items
  children_all node p named =
      let nodes : List ℕ = (node_handle node).json.children.items in
      ap (λ (xs : List ℕ). slice_range xs p.next p.end) named.source.1
      ∙ ap (λ (k : ℕ). slice_range nodes k p.end) named.next
      ∙ ap (slice_range nodes 0) named.end ∙ all_left nodes

  children_listed : (r : Root) (node : Node D G) → IsNode r (node_handle node).index node
      → slice_get (children_lists r) (node_handle node).index
      ≡ Some (node_handle node).json.children.items
  children_listed r node is_node =
      slice_get-map (λ n. n.children.items) r.nodes.items (node_handle node).index
      ∙ ap (option_map (λ n. n.children.items)) is_node.json

  pub children_left : (r : Root) (node : Node D G) (p : Position (NamedNodes D G))
      → IsNode r (node_handle node).index node
      → AreNamed (node_handle node).document (node_handle node).json.children.items p
      → (nodes_left p ≡ children_of r (node_handle node).index) × (document_of p ≡ r)
  children_left r node p is_node named = (
    children_all node p named ∙ sym (get_or_from_slice_get (children_lists r)
        (node_handle node).index (node_handle node).json.children.items []
        (children_listed r node is_node)),
    named.source.0 ∙ is_node.document,
  )

module _ {D : Type 0} {G : Ghosts D}
    {I : Indexes (NamedNodes D G) (Node D G)} where
  abbrev pub siblings_of : Level D G I → Siblings
  siblings_of l = level_of (nodes_left (position l.0)) l.1 l.2

  -- the deepest level stands last in the code
  abbrev pub levels_of : List (Level D G I) → List Siblings
  levels_of ls = reverse (map siblings_of ls)

  pub levels_more : (ls : List (Level D G I)) (level : Level D G I)
      → levels_of (ls ++ level ∷ []) ≡ siblings_of level ∷ levels_of ls
  levels_more ls level =
      ap reverse (map-append siblings_of ls (level ∷ []))
      ∙ reverse-append (map siblings_of ls) (siblings_of level ∷ [])

  pub record IsLevel (r : Root) (steps : ℕ) (l : Level D G I) : Type 0 where
    pub document : document_of (position l.0) ≡ r
    pub shallow : l.2 ≤ steps

  pub record Keeps (r : Root) (roots : List ℕ) (steps : List (Step D G)) (reached : List Bool)
      (ls : List (Level D G I)) : Type 0 where
    pub kept : Kept (children_of r) roots (map visit steps) (is_marked reached) (levels_of ls)
    pub handles : All (IsStep r) steps
    pub levels : All (IsLevel r (length steps)) ls

  pub keeps_start : (roots : Level D G I) → roots.1 ≡ None → roots.2 ≡ 0
      → Keeps (document_of (position roots.0)) (nodes_left (position roots.0)) [] []
      (roots ∷ [])
  keeps_start roots parent depth = record {
    kept = rw (parent, depth) (kept_start (children_of (document_of (position roots.0)))
        (nodes_left (position roots.0)) (is_marked []) (λ k. refl));
    handles = All-nil (IsStep (document_of (position roots.0)));
    levels = All-push (IsLevel (document_of (position roots.0)) 0) [] roots
        (All-nil (IsLevel (document_of (position roots.0)) 0))
        (record { document = refl; shallow = omega arith });
  }

  module _ (r : Root) (roots : List ℕ) (steps : List (Step D G)) (old : List Bool)
      (all ls : List (Level D G I)) (level : Level D G I) (is : all ≡ ls ++ level ∷ [])
      (keeps : Keeps r roots steps old all) where
    -- what holds of the level that is popped, and of the others
    pub popped : All (IsLevel r (length steps)) ls × IsLevel r (length steps) level
    popped = All-pop (IsLevel r (length steps)) all ls (Some level) is keeps.levels

    kept_popped : (ns : List ℕ) → nodes_left (position level.0) ≡ ns
        → Kept (children_of r) roots (map visit steps) (is_marked old)
        (level_of ns level.1 level.2 ∷ levels_of ls)
    kept_popped ns left =
        subst (λ (levels : List Siblings).
        Kept (children_of r) roots (map visit steps) (is_marked old) levels)
        (ap levels_of is ∙ levels_more ls level
        ∙ ap (λ (xs : List ℕ). level_of xs level.1 level.2 ∷ levels_of ls) left)
        keeps.kept

    pub keeps_closed : nodes_left (position level.0) ≡ [] → Keeps r roots steps old ls
    keeps_closed none = record {
      kept = kept_closed (children_of r) roots (map visit steps) (is_marked old) level.1
          level.2 (levels_of ls) (kept_popped [] none);
      handles = keeps.handles;
      levels = popped.0;
    }

    cost_all : open_cost (levels_of all)
        ≡ suc (length (nodes_left (position level.0))) + open_cost (levels_of ls)
    cost_all = ap (λ (levels : List (Level D G I)). open_cost (levels_of levels)) is
        ∙ ap open_cost (levels_more ls level)

    pub smaller_closed : (lists : List (List ℕ))
        → open_cost (levels_of ls) + cost (is_marked old) 0 lists
        < open_cost (levels_of all) + cost (is_marked old) 0 lists
    smaller_closed lists = omega (arith, cost_all)

    -- a turn of the loop: the next of the siblings is taken, and marked
    module _ (siblings : Handles (NamedNodes D G) (Node D G) I) (node : Node D G) (index : ℕ)
        (again : Bool) (new : List Bool)
        (next : Nth (λ s i n. IsNamed (G.root s.document.now) s.nodes.now i n) (position level.0) 0
        (Some node) (position siblings))
        (at : index ≡ (node_handle node).index) (before : is_marked old index ≡ again)
        (marked : is_marked new index ≡ true)
        (others : (k : ℕ) → k ≢ index → is_marked new k ≡ is_marked old k) where
      abbrev pub rest : Level D G I
      rest = (siblings, level.1, level.2)

      abbrev pub step : Step D G
      step = record { node = node; parent = level.1; depth = level.2; again = again }

      took : Taken r (position level.0) (position siblings) node
      took = taken r (position level.0) (position siblings) node popped.1.document next

      was : is_marked old (node_handle node).index ≡ again
      was = rw at at before

      marks : Marks (is_marked old) (is_marked new) (node_handle node).index
      marks = record { at = rw at at marked; others = rw at at others }

      more : length (steps ++ step ∷ []) ≡ length steps + 1
      more = length-append steps (step ∷ [])

      handles_more : All (IsStep r) (steps ++ step ∷ [])
      handles_more = All-push (IsStep r) steps step keeps.handles took.is_node

      levels_rest : All (IsLevel r (length (steps ++ step ∷ []))) (ls ++ rest ∷ [])
      levels_rest =
          All-push (IsLevel r (length (steps ++ step ∷ []))) ls rest
          (All-weaker (IsLevel r (length steps)) (IsLevel r (length (steps ++ step ∷ [])))
          (λ l h. record { document = h.document; shallow = omega (arith, more, h.shallow) }) ls
          popped.0)
          (record { document = took.document; shallow = omega (arith, more, popped.1.shallow) })

      cost_rest : open_cost (levels_of (ls ++ rest ∷ []))
          ≡ suc (length (nodes_left (position siblings))) + open_cost (levels_of ls)
      cost_rest = ap open_cost (levels_more ls rest)

      one_less : length (nodes_left (position level.0))
          ≡ suc (length (nodes_left (position siblings)))
      one_less = ap length took.left

      pub smaller_again : again ≡ true
          → open_cost (levels_of (ls ++ rest ∷ [])) + cost (is_marked new) 0 (children_lists r)
          < open_cost (levels_of all) + cost (is_marked old) 0 (children_lists r)
      smaller_again is_again =
          let unchanged : (k : ℕ) → 0 ≤ k → is_marked new k ≡ is_marked old k =
          λ k h. elim (cases_eq k (node_handle node).index) [
            | inl same ↦ rw same (marks.at ∙ sym (was ∙ is_again))
            | inr other ↦ marks.others k other
          ] in
          let same : cost (is_marked old) 0 (children_lists r)
          ≡ cost (is_marked new) 0 (children_lists r) =
          cost_same (is_marked old) (is_marked new) 0 (children_lists r) unchanged in
          omega (arith, cost_all, cost_rest, one_less, same)

      pub keeps_again : again ≡ true
          → Keeps r roots (steps ++ step ∷ []) new (ls ++ rest ∷ [])
      keeps_again is_again = record {
        kept = rw (map-append visit steps (step ∷ []), levels_more ls rest, is_again)
            (kept_again (children_of r) roots (map visit steps) (is_marked old) (is_marked new)
            (node_handle node).index (nodes_left (position siblings)) level.1
            level.2 (levels_of ls) (kept_popped _ took.left) (was ∙ is_again) marks);
        handles = handles_more;
        levels = levels_rest;
      }

      -- where the node was not reached before, its children are the deepest level
      module _ (no : again ≡ false) (children : Handles (NamedNodes D G) (Node D G) I)
          (parent : ℕ) (child_of : parent ≡ (node_handle node).index)
          (named : AreNamed (node_handle node).document (node_handle node).json.children.items
          (position children)) where
        abbrev pub below : Level D G I
        below = (children, Some parent, level.2 + 1)

        pub smaller_first :
            open_cost (levels_of ((ls ++ rest ∷ []) ++ below ∷ []))
            + cost (is_marked new) 0 (children_lists r)
            < open_cost (levels_of all) + cost (is_marked old) 0 (children_lists r)
        smaller_first =
            let n : ℕ = (node_handle node).index in
            let more_levels : open_cost (levels_of ((ls ++ rest ∷ []) ++ below ∷ []))
            ≡ suc (length (nodes_left (position children)))
            + open_cost (levels_of (ls ++ rest ∷ [])) =
            ap open_cost (levels_more (ls ++ rest ∷ []) below) in
            let all_left : length (nodes_left (position children))
            ≡ length (node_handle node).json.children.items =
            ap length (children_all node (position children) named) in
            let fewer : cost (is_marked old) 0 (children_lists r)
            ≡ suc (length (node_handle node).json.children.items)
            + cost (is_marked new) 0 (children_lists r) =
            cost_reached (is_marked old) (is_marked new) 0 n n (children_lists r)
            (node_handle node).json.children.items (was ∙ no) marks.at marks.others (omega arith)
            (children_listed r node took.is_node) in
            omega (arith, cost_all, cost_rest, one_less, more_levels, all_left, fewer)

        pub keeps_first : Keeps r roots (steps ++ step ∷ []) new ((ls ++ rest ∷ []) ++ below ∷ [])
        keeps_first =
            let left = children_left r node (position children) took.is_node named in
            record {
              kept = rw (
                map-append visit steps (step ∷ []),
                levels_more (ls ++ rest ∷ []) below,
                levels_more ls rest,
                no,
                child_of,
                left.0,
              )
                  (kept_first (children_of r) roots (map visit steps) (is_marked old)
                  (is_marked new) (node_handle node).index (nodes_left (position siblings))
                  level.1 level.2 (levels_of ls) (kept_popped _ took.left) (was ∙ no) marks);
              handles = handles_more;
              levels = All-push (IsLevel r (length (steps ++ step ∷ []))) (ls ++ rest ∷ []) below
                  levels_rest
                  (record {
                    document = left.1;
                    shallow = omega (arith, more, popped.1.shallow);
                  });
            }

  pub keeps_whole : (r : Root) (roots : List ℕ) (steps : List (Step D G)) (reached : List Bool)
      (ls : List (Level D G I)) → ls ≡ [] → Keeps r roots steps reached ls → IsWalk r roots steps
  keeps_whole r roots steps reached ls none keeps = record {
    order = kept_whole (children_of r) roots (map visit steps) (is_marked reached)
        (subst (λ (levels : List Siblings).
        Kept (children_of r) roots (map visit steps) (is_marked reached) levels)
        (ap levels_of none) keeps.kept);
    handles = keeps.handles;
  }
