-- What is taken of a budget.
use Rattle.std.proofs.Common.{◌≡◌, ◌≤◌, ◌+◌, ◌-◌, ℕ, Bool, true, false, List, [], ◌∷◌, arith, refl}
use Rattle.std.specs.Prelude.{nat_le, if◌then◌else◌}
use Rattle.std.proofs.lemmas.Bool.{leb-true, leb-false}
use Rattle.gltf_ranges.specs.Budget.{taken, total, too_dear, none_of}

within_by : (budget price : ℕ) (others : List ℕ) (b : Bool) → nat_le price budget ≡ b
    → taken (budget - price) others ≤ budget - price → taken budget others ≤ budget
    → (if b then price + taken (budget - price) others else taken budget others) ≤ budget
within_by budget price others true fits left_then without =
    omega (arith, leb-true price budget fits, left_then)
within_by budget price others false not left_then without = without

pub within_budget : (budget : ℕ) (prices : List ℕ) → taken budget prices ≤ budget
within_budget budget [] = omega arith
within_budget budget (price ∷ others) =
    within_by budget price others (nat_le price budget) refl (within_budget (budget - price) others)
    (within_budget budget others)

all_by : (budget price : ℕ) (others : List ℕ) (b : Bool) → nat_le price budget ≡ b
    → price + total others ≤ budget
    → (total others ≤ budget - price → none_of (too_dear (budget - price) others) ≡ true)
    → none_of (if b then false ∷ too_dear (budget - price) others
    else true ∷ too_dear budget others) ≡ true
all_by budget price others true fits enough rest = rest (omega (arith, enough))
all_by budget price others false not enough rest =
    absurd (omega (arith, enough, leb-false price budget not))

pub all_within : (budget : ℕ) (prices : List ℕ) → total prices ≤ budget
    → none_of (too_dear budget prices) ≡ true
all_within budget [] enough = refl
all_within budget (price ∷ others) enough =
    all_by budget price others (nat_le price budget) refl enough
    (all_within (budget - price) others)
