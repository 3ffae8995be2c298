-- A climb by tables is as many steps.
use Rattle.std.proofs.Common.{◌≡◌, ◌<◌, ◌≤◌, ◌+◌, ◌/◌, ◌%◌, ℕ, zero, suc, Bool, true, false, ◌&&◌}
use Rattle.std.proofs.Common.{refl, sym, ◌∙◌, ap, arith, if◌then◌else◌, List, [], ◌∷◌, ◌++◌}
use Rattle.std.proofs.Common.{get_or, length, map, append_assoc}
use Rattle.std.specs.Prelude.{nat_eq, nat_lt}
use Rattle.std.proofs.lemmas.List.{append-nil}
use Rattle.gltf_inspect_nodes.specs.Roots.{led, are_fixed}
use Rattle.gltf_inspect_trees.specs.Climbs.{Climb, doubled, climbed, moved}
use Rattle.gltf_inspect_trees.proofs.Raised.{climb_up}
use Rattle.gltf_inspect_trees.proofs.Steps.{after, after_same, halved, all_at_once}
use Rattle.gltf_inspect_trees.proofs.Counted.{led-twice}

unfoldable pub top_after : ℕ → List ℕ → List ℕ
top_after zero t = t
top_after (suc n) t = if are_fixed t t then t else top_after n (map (led t) t)

unfoldable pub levels_after : ℕ → List ℕ → List (List ℕ)
levels_after zero t = []
levels_after (suc n) t = if are_fixed t t then [] else t ∷ levels_after n (map (led t) t)

top_by : (n : ℕ) (c : Climb) (b : Bool)
    → ((c2 : Climb) → (climb_up n c2).top ≡ top_after n c2.top)
    → (if b then c else climb_up n (doubled c)).top
    ≡ (if b then c.top else top_after n (map (led c.top) c.top))
top_by n c true rest = refl
top_by n c false rest = rest (doubled c)

pub top_of : (n : ℕ) (c : Climb) → (climb_up n c).top ≡ top_after n c.top
unfolding climb_up top_after
top_of zero c = refl
top_of (suc n) c = top_by n c (are_fixed c.top c.top) (λ c2. top_of n c2)

levels_by : (n : ℕ) (c : Climb) (b : Bool)
    → ((c2 : Climb) → (climb_up n c2).levels ≡ c2.levels ++ levels_after n c2.top)
    → (if b then c else climb_up n (doubled c)).levels
    ≡ c.levels ++ (if b then [] else c.top ∷ levels_after n (map (led c.top) c.top))
levels_by n c true rest = sym (append-nil c.levels)
levels_by n c false rest =
    rest (doubled c)
    ∙ append_assoc c.levels (c.top ∷ []) (levels_after n (map (led c.top) c.top))

pub levels_of : (n : ℕ) (c : Climb) → (climb_up n c).levels ≡ c.levels ++ levels_after n c.top
unfolding climb_up levels_after
levels_of zero c = sym (append-nil c.levels)
levels_of (suc n) c = levels_by n c (are_fixed c.top c.top) (λ c2. levels_of n c2)

-- one step by the table is as many, where two are
abbrev pub IsOnce : List ℕ → Type 0
IsOnce t = (v : ℕ) → led t (led t v) ≡ led t v

at_top : (t : List ℕ) (d k : ℕ) → IsOnce t → climbed [] t d k ≡ after (led t) d k
at_top t d k once = all_at_once (led t) d k (nat_eq d 0) refl once

climbed_by : (n : ℕ) (t : List ℕ) (d k : ℕ) (b : Bool)
    → ((d2 k2 : ℕ) → IsOnce (top_after n (map (led t) t))
    → climbed (levels_after n (map (led t) t)) (top_after n (map (led t) t)) d2 k2
    ≡ after (led (map (led t) t)) d2 k2)
    → IsOnce (if b then t else top_after n (map (led t) t))
    → climbed (if b then [] else t ∷ levels_after n (map (led t) t))
    (if b then t else top_after n (map (led t) t)) d k ≡ after (led t) d k
climbed_by n t d k true rest once = at_top t d k once
climbed_by n t d k false rest once =
    rest (d / 2) (moved t (d % 2) k) once
    ∙ after_same (led (map (led t) t)) (λ v. led t (led t v)) (d / 2) (moved t (d % 2) k)
    (λ v. led-twice t v)
    ∙ halved (led t) d k (nat_eq (d % 2) 1) refl

pub climbed-is : (n : ℕ) (t : List ℕ) (d k : ℕ) → IsOnce (top_after n t)
    → climbed (levels_after n t) (top_after n t) d k ≡ after (led t) d k
unfolding top_after levels_after
climbed-is zero t d k once = at_top t d k once
climbed-is (suc n) t d k once =
    climbed_by n t d k (are_fixed t t)
    (λ d2 k2 once2. climbed-is n (map (led t) t) d2 k2 once2) once
