-- How many steps of the loop are left: one for each level and each sibling that is left, and those
-- of the nodes that were not reached.
use Rattle.std.proofs.Common.{◌≡◌, ◌≢◌, ℕ, zero, suc, ◌+◌, ◌≤◌, Bool, true, false, cond, List, []}
use Rattle.std.proofs.Common.{◌∷◌, length, Some, refl, arith}
use Rattle.std.specs.Prelude.{slice_get}
use Rattle.gltf_walk.proofs.Rests.{Siblings}

abbrev pub open_cost : List Siblings → ℕ
open_cost [] = 0
open_cost (level ∷ levels) = suc (length level.nodes) + open_cost levels

-- the nodes from i on, whose children are these lists, where a test says which were reached
abbrev pub cost : (ℕ → Bool) → ℕ → List (List ℕ) → ℕ
cost reached i [] = 0
cost reached i (nodes ∷ lists) =
    cond (reached i) 0 (suc (length nodes)) + cost reached (i + 1) lists

pub cost_same : (f g : ℕ → Bool) (i : ℕ) (lists : List (List ℕ))
    → ((k : ℕ) → i ≤ k → g k ≡ f k) → cost f i lists ≡ cost g i lists
cost_same f g i [] same = refl
cost_same f g i (nodes ∷ lists) same =
    let here : g i ≡ f i = same i (omega arith) in
    let others : cost f (i + 1) lists ≡ cost g (i + 1) lists =
    cost_same f g (i + 1) lists (λ k h. same k (omega arith)) in
    rw (here, others) refl

-- a node is reached
pub cost_reached : (f g : ℕ → Bool) (i j n : ℕ) (lists : List (List ℕ)) (nodes : List ℕ)
    → f n ≡ false → g n ≡ true → ((k : ℕ) → k ≢ n → g k ≡ f k) → n ≡ i + j
    → slice_get lists j ≡ Some nodes → cost f i lists ≡ suc (length nodes) + cost g i lists
cost_reached f g i j n [] nodes old new same is at = cc
cost_reached f g i zero n (first ∷ lists) nodes old new same is at =
    let here : n ≡ i = omega arith in
    let found : first ≡ nodes = cc in
    let before : f i ≡ false = rw here at old in
    let after : g i ≡ true = rw here at new in
    let others : cost f (i + 1) lists ≡ cost g (i + 1) lists =
    cost_same f g (i + 1) lists (λ k h. same k (omega arith)) in
    rw (before, after, others, found) (omega arith)
cost_reached f g i (suc j) n (first ∷ lists) nodes old new same is at =
    let here : g i ≡ f i = same i (omega arith) in
    let others : cost f (i + 1) lists ≡ suc (length nodes) + cost g (i + 1) lists =
    cost_reached f g (i + 1) j n lists nodes old new same (omega arith) at in
    rw (here, others) (omega arith)
