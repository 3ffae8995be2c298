-- What a reader of HTML sees: each of the five references is a character.
use Rattle.std.specs.Prelude.{ℕ, zero, suc, ◌==◌, Bool, true, false, ◌&&◌, List, [], ◌∷◌, codes}
use Rattle.std.specs.Prelude.{if◌then◌else◌}

-- the bytes begin with these
abbrev pub begin_with : List ℕ → List ℕ → Bool
begin_with [] bytes = true
begin_with (p ∷ ps) [] = false
begin_with (p ∷ ps) (b ∷ bytes) = b == p && begin_with ps bytes

-- what is read behind so many bytes, which belong to the reference before
abbrev pub read_behind : ℕ → List ℕ → List ℕ
read_behind n [] = []
read_behind (suc n) (b ∷ bytes) = read_behind n bytes
read_behind zero (b ∷ bytes) =
    if begin_with (codes "&amp;") (b ∷ bytes) then 38 ∷ read_behind 4 bytes
    else if begin_with (codes "&lt;") (b ∷ bytes) then 60 ∷ read_behind 3 bytes
    else if begin_with (codes "&gt;") (b ∷ bytes) then 62 ∷ read_behind 3 bytes
    else if begin_with (codes "&quot;") (b ∷ bytes) then 34 ∷ read_behind 5 bytes
    else if begin_with (codes "&#39;") (b ∷ bytes) then 39 ∷ read_behind 4 bytes
    else b ∷ read_behind 0 bytes

abbrev pub text_of : List ℕ → List ℕ
text_of bytes = read_behind 0 bytes
