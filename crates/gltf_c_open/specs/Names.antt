-- Names of extensions out of one block of bytes.
use Rattle.std.specs.Prelude.{◌≡◌, ◌==◌, ◌-◌, ℕ, List, length, take, filter}
use Rattle.std.specs.List.{slice_split}
use Rattle.std.specs.Str.{is_utf8}

-- the parts of a block between its zero bytes
abbrev pub parts_of : List ℕ → List (List ℕ)
parts_of block = slice_split (λ x. x == 0) block

-- each name is followed by a zero byte, so that the part after the last one is no name
abbrev pub parts_in : List ℕ → List (List ℕ)
parts_in block = take (length (parts_of block) - 1) (parts_of block)

-- these are the names in a block: those of its parts that are UTF-8, in their order
abbrev pub AreNames : List ℕ → List (List ℕ) → Type 0
AreNames block names = names ≡ filter is_utf8 (parts_in block)
