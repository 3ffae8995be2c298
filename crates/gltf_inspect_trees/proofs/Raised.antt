-- Doublings one after the other.
use Rattle.std.proofs.Common.{◌≡◌, ◌≤◌, ◌+◌, ◌-◌, ℕ, zero, suc, Bool, true, false, refl, sym}
use Rattle.std.proofs.Common.{◌∙◌, ap, arith}
use Rattle.std.proofs.Common.{if◌then◌else◌, add-one}
use Rattle.gltf_inspect_nodes.specs.Roots.{are_fixed}
use Rattle.gltf_inspect_trees.specs.Climbs.{Climb, doubled, once, raised}

pub raised_none : (c : Climb) → raised 0 c ≡ c
unfolding raised
raised_none c = refl

one_more : (n : ℕ) (c : Climb) → raised (suc n) c ≡ once (raised n c)
unfolding raised
one_more n c = refl

more_by_one : (n : ℕ) (c : Climb) → raised (n + 1) c ≡ once (raised n c)
more_by_one n c =
    ap (λ m. raised m c) (let e : n + 1 ≡ suc n = omega arith in e) ∙ one_more n c

once-open : (c : Climb) → are_fixed c.top c.top ≡ false → doubled c ≡ once c
unfolding once
once-open c h = sym (ap (λ b. if b then c else doubled c) h)

once-fixed : (c : Climb) → are_fixed c.top c.top ≡ true → once c ≡ c
unfolding once
once-fixed c h = ap (λ b. if b then c else doubled c) h

-- where steps lead to another node, doubling them is one more
pub raised_more : (n : ℕ) (c d : Climb) → d ≡ raised n c → are_fixed d.top d.top ≡ false
    → doubled d ≡ raised (n + 1) c
raised_more n c d at open_ =
    once-open d open_ ∙ ap (λ x. once x) at ∙ sym (more_by_one n c)

stays : (n k : ℕ) (c : Climb) → once (raised n c) ≡ raised n c → raised (n + k) c ≡ raised n c
stays n zero c h = ap (λ m. raised m c) (let e : n + 0 ≡ n = omega arith in e)
stays n (suc k) c h =
    ap (λ m. raised m c) (let e : n + suc k ≡ n + k + 1 = omega arith in e)
    ∙ more_by_one (n + k) c
    ∙ ap (λ x. once x) (stays n k c h)
    ∙ h

-- where they lead to none, no number of further doublings changes anything
pub raised_done : (n m : ℕ) (c d : Climb) → d ≡ raised n c → n ≤ m
    → are_fixed d.top d.top ≡ true → d ≡ raised m c
raised_done n m c d at most fixed =
    let same : once (raised n c) ≡ raised n c =
    sym (ap (λ x. once x) at) ∙ once-fixed d fixed ∙ at in
    at ∙ sym (stays n (m - n) c same)
    ∙ ap (λ k. raised k c) (let e : n + (m - n) ≡ m = omega arith in e)

-- the same, from the first doubling on
unfoldable pub climb_up : ℕ → Climb → Climb
climb_up zero c = c
climb_up (suc n) c = if are_fixed c.top c.top then c else climb_up n (doubled c)

once_first : (n : ℕ) (c : Climb) → raised n (once c) ≡ once (raised n c)
unfolding raised
once_first zero c = refl
once_first (suc n) c = ap (λ x. once x) (once_first n c)

done_by : (n : ℕ) (c : Climb) (b : Bool) → b ≡ true
    → (if b then c else climb_up n (doubled c)) ≡ c
done_by n c b h = ap (λ x. if x then c else climb_up n (doubled c)) h

done : (n : ℕ) (c : Climb) → are_fixed c.top c.top ≡ true → climb_up n c ≡ c
unfolding climb_up
done zero c h = refl
done (suc n) c h = done_by n c (are_fixed c.top c.top) h

first_by : (n : ℕ) (c : Climb) (b : Bool) → are_fixed c.top c.top ≡ b
    → climb_up n (if b then c else doubled c) ≡ (if b then c else climb_up n (doubled c))
first_by n c true h = done n c h
first_by n c false h = refl

first_one : (n : ℕ) (c : Climb)
    → climb_up n (once c) ≡ (if are_fixed c.top c.top then c else climb_up n (doubled c))
unfolding once
first_one n c = first_by n c (are_fixed c.top c.top) refl

pub raised-is : (n : ℕ) (c : Climb) → raised n c ≡ climb_up n c
unfolding raised climb_up
raised-is zero c = refl
raised-is (suc n) c = sym (once_first n c) ∙ raised-is n (once c) ∙ first_one n c
