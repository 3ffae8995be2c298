-- A list falls exactly where two neighbours do, by induction on what stands before them.
use Rattle.std.proofs.Common.{◌≡◌, ◌⊎◌, ◌↔◌, inl, inr, Bool, true, false, ◌||◌, List, [], ◌∷◌, ◌++◌}
use Rattle.std.proofs.Common.{Option, Some, None, refl, ap, ⊎_elim, subst, sym}
use Rattle.std.proofs.lemmas.Bool.{false≢true}
use Rattle.gltf_inspect_values.specs.Falls.{after, falls, SomeNeighbours}

or_cases : (a b : Bool) → (a || b) ≡ true → (a ≡ true) ⊎ (b ≡ true)
or_cases true b e = inl refl
or_cases false b e = inr e

or_right : (a b : Bool) → b ≡ true → (a || b) ≡ true
or_right true b e = refl
or_right false b e = e

or_left : (a b : Bool) → a ≡ true → (a || b) ≡ true
or_left true b e = refl
or_left false b e = absurd (false≢true e)

module _ {X : Type 0} (stands : X → X → Bool) where
  later : (b x : X) (xs : List X) → SomeNeighbours stands (x ∷ xs)
      → SomeNeighbours stands (b ∷ x ∷ xs)
  later b x xs found = record {
    front = b ∷ found.front;
    first = found.first;
    second = found.second;
    rest = found.rest;
    whole = ap (λ (ys : List X). b ∷ ys) found.whole;
    so = found.so;
  }

  found : (b : X) (xs : List X) → falls stands (Some b) xs ≡ true → SomeNeighbours stands (b ∷ xs)
  found b [] e = absurd (false≢true e)
  found b (x ∷ xs) e = ⊎_elim
      (λ now. record {
        front = [];
        first = b;
        second = x;
        rest = xs;
        whole = refl;
        so = now;
      })
      (λ further. later b x xs (found x xs further))
      (or_cases (stands b x) (falls stands (Some x) xs) e)

  found_in : (xs : List X) → falls stands None xs ≡ true → SomeNeighbours stands xs
  found_in [] e = absurd (false≢true e)
  found_in (x ∷ xs) e = found x xs e

  falls_at : (before : Option X) (front : List X) (x y : X) (rest : List X) → stands x y ≡ true
      → falls stands before (front ++ x ∷ y ∷ rest) ≡ true
  falls_at before [] x y rest so =
      or_right (after stands before x) (stands x y || falls stands (Some y) rest)
      (or_left (stands x y) (falls stands (Some y) rest) so)
  falls_at before (z ∷ front) x y rest so =
      or_right (after stands before z) (falls stands (Some z) (front ++ x ∷ y ∷ rest))
      (falls_at (Some z) front x y rest so)

  pub neighbours_fall : (xs : List X) → (falls stands None xs ≡ true) ↔ SomeNeighbours stands xs
  neighbours_fall xs = (
    found_in xs,
    λ some. subst (λ (ys : List X). falls stands None ys ≡ true) (sym some.whole)
        (falls_at None some.front some.first some.second some.rest some.so),
  )
