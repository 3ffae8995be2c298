-- Colours with three components, red, green and blue, and with four: alpha follows them (glTF
-- 2.0, section 3.7.2.1).
use Rattle.std.specs.Prelude.{List, [], ◌∷◌, ◌++◌, take}

-- three components, and an alpha after them
abbrev pub with_alpha : {X : Type 0} → X → List X → List X
with_alpha alpha color = color ++ alpha ∷ []

-- the three in front of alpha
abbrev pub without_alpha : {X : Type 0} → List X → List X
without_alpha color = take 3 color
