-- A walk over so many numbers comes to one that it comes to again.
use Rattle.std.proofs.Common.{◌≡◌, ◌<◌, ℕ, zero, suc, Bool, true, false, ◌⊎◌, inl, inr}
use Rattle.std.proofs.Common.{refl, sym, ap, arith, List, [], ◌∷◌, length}
use Rattle.std.specs.Prelude.{nat_eq, ◌||◌}
use Rattle.std.specs.List.{list_any, IsDistinct, AllByRecursion}
use Rattle.std.proofs.lemmas.Bool.{eqb-true}
use Rattle.std.proofs.lemmas.Map.Steps.{length-le_from_distinct_below}
use Rattle.gltf_inspect_loops.proofs.Walks.{after}

-- so many numbers, from one on
abbrev pub orbit : (ℕ → ℕ) → ℕ → ℕ → List ℕ
orbit f zero k = []
orbit f (suc n) k = k ∷ orbit f n (f k)

length-orbit : (f : ℕ → ℕ) (n k : ℕ) → length (orbit f n k) ≡ n
length-orbit f zero k = refl
length-orbit f (suc n) k = ap (λ x. suc x) (length-orbit f n (f k))

in_orbit_by : (f : ℕ → ℕ) (n k x : ℕ) (b : Bool) → nat_eq x k ≡ b
    → (list_any (nat_eq x) (orbit f n (f k)) ≡ true
    → (d : ℕ) × (d < n) × (after f d (f k) ≡ x))
    → (b || list_any (nat_eq x) (orbit f n (f k))) ≡ true
    → (d : ℕ) × (d < suc n) × (after f d k ≡ x)
unfolding after
in_orbit_by f n k x true e rest h =
    (zero, (let l : 0 < suc n = omega arith in l), sym (eqb-true x k e))
in_orbit_by f n k x false e rest h =
    let there = rest h in
    (suc there.0, (let less = there.1 in let l : suc there.0 < suc n = omega arith in l), there.2)

in_orbit : (f : ℕ → ℕ) (n k x : ℕ) → list_any (nat_eq x) (orbit f n k) ≡ true
    → (d : ℕ) × (d < n) × (after f d k ≡ x)
in_orbit f zero k x h = cc
in_orbit f (suc n) k x h =
    in_orbit_by f n k x (nat_eq x k) refl (λ there. in_orbit f n (f k) x there) h

not_here : (x : ℕ) (b rest : Bool) → (b || rest) ≡ false → (b ≡ false) × (rest ≡ false)
not_here x true rest h = cc
not_here x false rest h = (refl, h)

all_other : (x : ℕ) (ys : List ℕ) → list_any (nat_eq x) ys ≡ false
    → AllByRecursion (λ y. nat_eq x y ≡ false) ys
all_other x [] h = tt
all_other x (y ∷ ys) h =
    let parts = not_here x (nat_eq x y) (list_any (nat_eq x) ys) h in
    (parts.0, all_other x ys parts.1)

-- a number of the walk to which it comes again
abbrev pub Returns : (ℕ → ℕ) → ℕ → ℕ → Type 0
Returns f n k = (a : ℕ) × (a < n) × (d : ℕ) × (after f (suc d) (after f a k) ≡ after f a k)

again_by : (f : ℕ → ℕ) (n k : ℕ) (b : Bool) → list_any (nat_eq k) (orbit f n (f k)) ≡ b
    → Returns f n (f k) ⊎ IsDistinct nat_eq (orbit f n (f k))
    → Returns f (suc n) k ⊎ IsDistinct nat_eq (orbit f (suc n) k)
unfolding after IsDistinct
again_by f n k true e rest =
    let there = in_orbit f n (f k) k e in
    inl (zero, (let l : 0 < suc n = omega arith in l), there.0, there.2)
again_by f n k false e (inl rest) =
    inl (
      suc rest.0,
      (let less = rest.1 in let l : suc rest.0 < suc n = omega arith in l),
      rest.2,
      rest.3,
    )
again_by f n k false e (inr rest) = inr (all_other k (orbit f n (f k)) e, rest)

again : (f : ℕ → ℕ) (n k : ℕ) → Returns f n k ⊎ IsDistinct nat_eq (orbit f n k)
unfolding IsDistinct
again f zero k = inr tt
again f (suc n) k =
    again_by f n k (list_any (nat_eq k) (orbit f n (f k))) refl (again f n (f k))

below_here : (f : ℕ → ℕ) (most n k q : ℕ) (b : Bool) → k < most → nat_eq q k ≡ b
    → (list_any (nat_eq q) (orbit f n (f k)) ≡ true → q < most)
    → (b || list_any (nat_eq q) (orbit f n (f k))) ≡ true → q < most
below_here f most n k q true below e rest h =
    let same : q ≡ k = eqb-true q k e in omega arith
below_here f most n k q false below e rest h = rest h

below_by : (f : ℕ → ℕ) (most : ℕ) → ((v : ℕ) → v < most → f v < most) → (n k : ℕ) → k < most
    → (q : ℕ) → list_any (nat_eq q) (orbit f n k) ≡ true → q < most
below_by f most stays zero k below q h = cc
below_by f most stays (suc n) k below q h =
    below_here f most n k q (nat_eq q k) below refl
    (λ rest. below_by f most stays n (f k) (stays k below) q rest) h

returns_of : (f : ℕ → ℕ) (most k : ℕ) → ((v : ℕ) → v < most → f v < most) → k < most
    → Returns f (suc most) k ⊎ IsDistinct nat_eq (orbit f (suc most) k) → Returns f (suc most) k
returns_of f most k stays below (inl found) = found
returns_of f most k stays below (inr distinct) =
    let long = length-orbit f (suc most) k in
    let few = length-le_from_distinct_below (orbit f (suc most) k) most distinct
    (below_by f most stays (suc most) k below) in
    absurd (omega (arith, long, few))

-- among so many numbers each walk of one step more comes back
pub comes_back : (f : ℕ → ℕ) (most k : ℕ) → ((v : ℕ) → v < most → f v < most) → k < most
    → Returns f (suc most) k
comes_back f most k stays below = returns_of f most k stays below (again f (suc most) k)
