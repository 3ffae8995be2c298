-- Copies of what stands behind the views that stay, in which the bytes of the others become zeros.
use Rattle.std.specs.Prelude.{ℕ, ◌+◌, ◌==◌, List, [], ◌∷◌, Bool, map, drop, get_or, Vec}
use Rattle.std.specs.Prelude.{false, if◌then◌else◌}
use Rattle.std.specs.List.{list_all}
use Rattle.std.specs.declared.alloc.Global.{Global}

-- the bytes of each of some vectors
abbrev pub bytes_of : List (Vec ℕ Global) → List (List ℕ)
bytes_of vs = map (λ v. v.items) vs

-- what stands behind place e, where there is a mark
abbrev pub tail : Bool → ℕ → List ℕ → List ℕ
tail mark e bytes = if mark then drop e bytes else []

-- that of each, from index i on
abbrev pub all_tails : List Bool → List ℕ → ℕ → List (List ℕ) → List (List ℕ)
all_tails ms ends i [] = []
all_tails ms ends i (bytes ∷ more) =
    tail (get_or ms i false) (get_or ends i 0) bytes ∷ all_tails ms ends (i + 1) more

-- the byte at place i of number b, zero where there is none
abbrev pub byte_at : List (List ℕ) → ℕ → ℕ → ℕ
byte_at tails b i = get_or (get_or tails b []) i 0

-- there are only zeros
abbrev pub is_blank : List ℕ → Bool
is_blank bytes = list_all (λ x. x == 0) bytes
