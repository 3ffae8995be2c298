-- Lists that have to rise.
use Rattle.std.specs.Prelude.{◌≡◌, Bool, true, false, ◌||◌, List, [], ◌∷◌, ◌++◌}
use Rattle.std.specs.Prelude.{Option, Some, None}

-- x stands so to what is before it
abbrev pub after : {X : Type 0} → (X → X → Bool) → Option X → X → Bool
after stands None x = false
after stands (Some before) x = stands before x

-- some element of the list stands so to the one before it, of which the first has that before it
abbrev pub falls : {X : Type 0} → (X → X → Bool) → Option X → List X → Bool
falls stands before [] = false
falls stands before (x ∷ xs) = after stands before x || falls stands (Some x) xs

-- two elements of the list, the one right after the other, of which the second stands so to the
-- first
pub record SomeNeighbours {X : Type 0} (stands : X → X → Bool) (xs : List X) : Type 0 where
  pub front : List X
  pub first : X
  pub second : X
  pub rest : List X
  pub whole : xs ≡ front ++ first ∷ second ∷ rest
  pub so : stands first second ≡ true
