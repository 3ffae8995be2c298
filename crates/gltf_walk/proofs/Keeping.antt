-- What each step of the loop keeps: the steps so far and those of what is left are the whole walk,
-- and the marked nodes are those of the steps so far.
use Rattle.std.proofs.Common.{◌≡◌, ◌≢◌, ℕ, zero, suc, ◌+◌, Bool, true, false, List, [], ◌∷◌, ◌++◌}
use Rattle.std.proofs.Common.{refl, sym, ap, ◌∙◌, subst, inl, inr, append_assoc, Some, None}
use Rattle.std.proofs.Common.{arith}
use Rattle.std.specs.Prelude.{Option, Contains, ◌↔◌}
use Rattle.std.proofs.lemmas.Bool.{cases_eq}
use Rattle.std.proofs.lemmas.List.{append-nil, map-append}
use Rattle.std.proofs.lemmas.List.Elements.{Contains-append_left, Contains-append_right}
use Rattle.std.proofs.lemmas.List.Elements.{Contains-append_cases}
use Rattle.gltf_walk.specs.DepthFirst.{Visit, nodes_of, DepthFirst}
use Rattle.gltf_walk.proofs.Rests.{Siblings, Rest, visit_of, level_of}
use Rattle.gltf_walk.proofs.Rests.{rest_closed, rest_again, rest_first}

pub record Kept (children : ℕ → List ℕ) (roots : List ℕ) (given : List Visit) (marked : ℕ → Bool)
    (levels : List Siblings) : Type 0 where
  pub whole : (rest : List Visit) → Rest children (nodes_of given) levels rest
      → DepthFirst children [] None 0 roots (given ++ rest)
  pub marks : (k : ℕ) → Contains (nodes_of given) k ↔ (marked k ≡ true)

-- n is marked, and nothing else changes
pub record Marks (old new : ℕ → Bool) (n : ℕ) : Type 0 where
  pub at : new n ≡ true
  pub others : (k : ℕ) → k ≢ n → new k ≡ old k

only_one : (n k : ℕ) → Contains (n ∷ []) k → k ≡ n
only_one n k (zero, inside, is) = sym is
only_one n k (suc i, inside, is) = absurd (omega arith)

module _ (children : ℕ → List ℕ) (roots : List ℕ) where
  pub kept_start : (marked : ℕ → Bool) → ((k : ℕ) → marked k ≡ false)
      → Kept children roots [] marked (level_of roots None 0 ∷ [])
  kept_start marked none = record {
    whole = λ rest (here, above, walk, ends, is).
        let all : here ≡ rest =
        sym (is ∙ ap (λ (vs : List Visit). here ++ vs) ends ∙ append-nil here) in
        subst (λ (vs : List Visit). DepthFirst children [] None 0 roots vs) all walk;
    marks = λ k. (
      λ (i, inside, is). absurd (omega arith),
      λ yes. let no : marked k ≡ false = none k in cc,
    );
  }

  pub kept_closed : (given : List Visit) (marked : ℕ → Bool) (p : Option ℕ) (d : ℕ)
      (levels : List Siblings) → Kept children roots given marked (level_of [] p d ∷ levels)
      → Kept children roots given marked levels
  kept_closed given marked p d levels kept = record {
    whole = λ rest left. kept.whole rest
        (rest_closed children (nodes_of given) p d levels rest left);
    marks = kept.marks;
  }

  module _ (given : List Visit) (old new : ℕ → Bool) (n : ℕ) (p : Option ℕ) (d : ℕ) (b : Bool)
      (levels : List Siblings) where
    nodes_more : nodes_of (given ++ visit_of n p d b ∷ []) ≡ nodes_of given ++ n ∷ []
    nodes_more = map-append (λ v. v.node) given (visit_of n p d b ∷ [])

    marks_more : ((k : ℕ) → Contains (nodes_of given) k ↔ (old k ≡ true)) → Marks old new n
        → (k : ℕ) → Contains (nodes_of given ++ n ∷ []) k ↔ (new k ≡ true)
    marks_more marks change k = (
      λ has. elim (cases_eq k n) [
        | inl same ↦ rw same change.at
        | inr other ↦ elim (Contains-append_cases (nodes_of given) (n ∷ []) k has) [
          | inl earlier ↦ change.others k other ∙ (marks k).0 earlier
          | inr here ↦ absurd (other (only_one n k here))
        ]
      ],
      λ yes. elim (cases_eq k n) [
        | inl same ↦ Contains-append_right (nodes_of given) (n ∷ []) k
            (zero, omega arith, sym same)
        | inr other ↦ Contains-append_left (nodes_of given) (n ∷ []) k
            ((marks k).1 (sym (change.others k other) ∙ yes))
      ],
    )

    marked_more : ((k : ℕ) → Contains (nodes_of given) k ↔ (old k ≡ true)) → Marks old new n
        → (k : ℕ) → Contains (nodes_of (given ++ visit_of n p d b ∷ [])) k ↔ (new k ≡ true)
    marked_more marks change k =
        subst (λ (xs : List ℕ). Contains xs k ↔ (new k ≡ true)) (sym nodes_more)
        (marks_more marks change k)

    -- from the steps with one more to those before it
    rest_less : (rest : List Visit)
        → Rest children (nodes_of (given ++ visit_of n p d b ∷ [])) levels rest
        → Rest children (nodes_of given ++ n ∷ []) levels rest
    rest_less rest left =
        subst (λ (xs : List ℕ). Rest children xs levels rest) nodes_more left

    whole_more : (rest : List Visit)
        → DepthFirst children [] None 0 roots (given ++ visit_of n p d b ∷ rest)
        → DepthFirst children [] None 0 roots ((given ++ visit_of n p d b ∷ []) ++ rest)
    whole_more rest walk =
        subst (λ (vs : List Visit). DepthFirst children [] None 0 roots vs)
        (sym (append_assoc given (visit_of n p d b ∷ []) rest)) walk

  pub kept_again : (given : List Visit) (old new : ℕ → Bool) (n : ℕ) (ns : List ℕ) (p : Option ℕ)
      (d : ℕ) (levels : List Siblings)
      → Kept children roots given old (level_of (n ∷ ns) p d ∷ levels) → old n ≡ true
      → Marks old new n
      → Kept children roots (given ++ visit_of n p d true ∷ []) new (level_of ns p d ∷ levels)
  kept_again given old new n ns p d levels kept reached change = record {
    whole = λ rest left.
        whole_more given old new n p d true (level_of ns p d ∷ levels) rest
        (kept.whole (visit_of n p d true ∷ rest)
        (rest_again children (nodes_of given) n ns p d levels rest ((kept.marks n).1 reached)
        (rest_less given old new n p d true (level_of ns p d ∷ levels) rest left)));
    marks = marked_more given old new n p d true levels kept.marks change;
  }

  pub kept_first : (given : List Visit) (old new : ℕ → Bool) (n : ℕ) (ns : List ℕ) (p : Option ℕ)
      (d : ℕ) (levels : List Siblings)
      → Kept children roots given old (level_of (n ∷ ns) p d ∷ levels) → old n ≡ false
      → Marks old new n
      → Kept children roots (given ++ visit_of n p d false ∷ []) new
      (level_of (children n) (Some n) (d + 1) ∷ level_of ns p d ∷ levels)
  kept_first given old new n ns p d levels kept not_reached change = record {
    whole = λ rest left.
        whole_more given old new n p d false levels rest
        (kept.whole (visit_of n p d false ∷ rest)
        (rest_first children (nodes_of given) n ns p d levels rest
        (λ has. let reached : old n ≡ true = (kept.marks n).0 has in cc)
        (rest_less given old new n p d false
        (level_of (children n) (Some n) (d + 1) ∷ level_of ns p d ∷ levels) rest left)));
    marks = marked_more given old new n p d false levels kept.marks change;
  }

  -- nothing is left
  pub kept_whole : (given : List Visit) (marked : ℕ → Bool) → Kept children roots given marked []
      → DepthFirst children [] None 0 roots given
  kept_whole given marked kept =
      subst (λ (vs : List Visit). DepthFirst children [] None 0 roots vs) (append-nil given)
      (kept.whole [] refl)
