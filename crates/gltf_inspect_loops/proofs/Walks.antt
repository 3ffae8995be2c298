-- Steps by a function, many at once.
use Rattle.std.proofs.Common.{◌≡◌, ◌+◌, ℕ, zero, suc, refl, sym, ◌∙◌, ap, arith}

-- where so many steps lead to
unfoldable pub after : (ℕ → ℕ) → ℕ → ℕ → ℕ
after f zero k = k
after f (suc n) k = after f n (f k)

pub after_more : (f : ℕ → ℕ) (m n k : ℕ) → after f (m + n) k ≡ after f n (after f m k)
unfolding after
after_more f zero n k = ap (λ x. after f x k) (let e : zero + n ≡ n = omega arith in e)
after_more f (suc m) n k =
    ap (λ x. after f x k) (let e : suc m + n ≡ suc (m + n) = omega arith in e)
    ∙ after_more f m n (f k)

pub after_both : (f : ℕ → ℕ) (m n k : ℕ) → after f m (after f n k) ≡ after f n (after f m k)
after_both f m n k =
    sym (after_more f n m k)
    ∙ ap (λ x. after f x k) (let e : n + m ≡ m + n = omega arith in e)
    ∙ after_more f m n k

pub after_still : (f : ℕ → ℕ) (n k : ℕ) → f k ≡ k → after f n k ≡ k
unfolding after
after_still f zero k still = refl
after_still f (suc n) k still = ap (λ x. after f n x) still ∙ after_still f n k still

-- round and round
unfoldable pub times : ℕ → ℕ → ℕ
times zero m = zero
times (suc n) m = m + times n m

pub after_times : (f : ℕ → ℕ) (n m k : ℕ) → after f m k ≡ k → after f (times n m) k ≡ k
unfolding after times
after_times f zero m k round = refl
after_times f (suc n) m k round =
    after_more f m (times n m) k
    ∙ ap (λ x. after f (times n m) x) round
    ∙ after_times f n m k round
