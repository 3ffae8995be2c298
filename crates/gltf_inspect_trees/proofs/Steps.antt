-- Steps by a function, many at once.
use Rattle.std.proofs.Common.{◌≡◌, ◌≢◌, ◌<◌, ◌≤◌, ◌+◌, ◌-◌, ◌*◌, ◌/◌, ◌%◌, ℕ, zero, suc, Bool, true}
use Rattle.std.proofs.Common.{false}
use Rattle.std.proofs.Common.{refl, sym, ◌∙◌, ap, subst, arith, if◌then◌else◌}
use Rattle.std.specs.Prelude.{nat_eq}
use Rattle.std.proofs.lemmas.Bool.{eqb-true, eqb-false}

-- where so many steps lead to
abbrev pub after : (ℕ → ℕ) → ℕ → ℕ → ℕ
after f zero k = k
after f (suc n) k = after f n (f k)

pub after_same : (f g : ℕ → ℕ) (n k : ℕ) → ((v : ℕ) → f v ≡ g v) → after f n k ≡ after g n k
after_same f g zero k same = refl
after_same f g (suc n) k same =
    after_same f g n (f k) same ∙ ap (λ x. after g n x) (same k)

pub after_more : (f : ℕ → ℕ) (m n k : ℕ) → after f (m + n) k ≡ after f n (after f m k)
after_more f zero n k = ap (λ x. after f x k) (let e : zero + n ≡ n = omega arith in e)
after_more f (suc m) n k =
    ap (λ x. after f x k) (let e : suc m + n ≡ suc (m + n) = omega arith in e)
    ∙ after_more f m n (f k)

-- a step from where it leads nowhere else
pub after_still : (f : ℕ → ℕ) (n k : ℕ) → f k ≡ k → after f n k ≡ k
after_still f zero k still = refl
after_still f (suc n) k still = ap (λ x. after f n x) still ∙ after_still f n k still

abbrev pub double : ℕ → ℕ
double zero = zero
double (suc n) = suc (suc (double n))

pub double-is : (n : ℕ) → double n ≡ n + n
double-is zero = omega arith
double-is (suc n) = let e = double-is n in omega arith

pub after-double : (f : ℕ → ℕ) (n k : ℕ) → after (λ v. f (f v)) n k ≡ after f (double n) k
after-double f zero k = refl
after-double f (suc n) k = after-double f n (f (f k))

even : (d : ℕ) → d % 2 ≢ 1 → double (d / 2) ≡ d
even d h = let e = double-is (d / 2) in omega arith

odd : (d : ℕ) → d % 2 ≡ 1 → suc (double (d / 2)) ≡ d
odd d h = let e = double-is (d / 2) in omega arith

-- half as many steps of two, and one more where the number is odd
pub halved : (f : ℕ → ℕ) (d k : ℕ) (b : Bool) → nat_eq (d % 2) 1 ≡ b
    → after (λ v. f (f v)) (d / 2) (if b then f k else k) ≡ after f d k
halved f d k true e =
    after-double f (d / 2) (f k) ∙ ap (λ x. after f x k) (odd d (eqb-true (d % 2) 1 e))
halved f d k false e =
    after-double f (d / 2) k ∙ ap (λ x. after f x k) (even d (eqb-false (d % 2) 1 e))

-- one step is as many, where two are
at_once : (f : ℕ → ℕ) (n k : ℕ) → ((v : ℕ) → f (f v) ≡ f v) → after f n (f k) ≡ f k
at_once f n k once = after_still f n (f k) (once k)

some : (f : ℕ → ℕ) (d k : ℕ) → d ≢ 0 → ((v : ℕ) → f (f v) ≡ f v) → f k ≡ after f d k
some f zero k h once = absurd (h refl)
some f (suc d) k h once = sym (at_once f d k once)

pub all_at_once : (f : ℕ → ℕ) (d k : ℕ) (b : Bool) → nat_eq d 0 ≡ b
    → ((v : ℕ) → f (f v) ≡ f v) → (if b then k else f k) ≡ after f d k
all_at_once f d k true e once = ap (λ x. after f x k) (sym (eqb-true d 0 e))
all_at_once f d k false e once = some f d k (eqb-false d 0 e) once
