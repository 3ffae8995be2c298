-- One more stored index: it counts, or ends those that do.
use Rattle.std.proofs.Common.{◌≡◌, ℕ, suc, ◌+◌, ◌<◌, ◌≤◌, ◌&&◌, List, [], ◌∷◌, length, refl, arith}
use Rattle.std.specs.Prelude.{nat_lt, nat_le}
use Rattle.std.proofs.lemmas.Bool.{cond_both, lt-leb, le-leb, lt-ltb, le-ltb}
use Rattle.gltf_inspect_items.specs.Members.{placed}

pub placed_among : (least n : ℕ) (xs : List ℕ) → placed least n xs ≤ length xs
placed_among least n [] = omega arith
placed_among least n (x ∷ xs) =
    cond_both (nat_le least x && nat_lt x n) (suc (placed (x + 1) n xs)) 0
    (λ m. m ≤ length (x ∷ xs)) (λ e. omega (arith, placed_among (x + 1) n xs)) (λ e. omega arith)

pub stops_low : (least n x : ℕ) (xs : List ℕ) → x < least → placed least n (x ∷ xs) ≡ 0
stops_low least n x xs low = rw (lt-leb least x low) refl

pub stops_past : (least n x : ℕ) (xs : List ℕ) → least ≤ x → n ≤ x → placed least n (x ∷ xs) ≡ 0
stops_past least n x xs from past = rw (le-leb least x from, le-ltb x n past) refl

pub goes_on : (least n x : ℕ) (xs : List ℕ) → least ≤ x → x < n
    → placed least n (x ∷ xs) ≡ 1 + placed (x + 1) n xs
goes_on least n x xs from below = rw (le-leb least x from, lt-ltb x n below) (omega arith)
