-- The items of a sparse accessor: those of a base, or zeros without one, and in place of some of
-- them the values (glTF 2.0, 3.6.2.3 "Sparse Accessors", which asks that the indices strictly
-- increase).
use Rattle.std.specs.Prelude.{ℕ, ◌+◌, ◌==◌, nat_le, if◌then◌else◌, List, [], ◌∷◌, length, take, map}
use Rattle.std.specs.Prelude.{slice_index_or, Option, Some, None, unwrap_or}
use Rattle.std.specs.List.{range_with_len}
use Rattle.std.specs.Int.Digits.{digits_of}

-- the longest strictly increasing beginning of a list, whose first number is at least `least`
abbrev pub rising : ℕ → List ℕ → List ℕ
rising least [] = []
rising least (x ∷ xs) = if nat_le least x then x ∷ rising (x + 1) xs else []

-- the stored indices that count: that beginning, no longer than the values
unfoldable pub front : {X : Type 0} → List ℕ → List X → List ℕ
front indices values = rising 0 (take (length values) indices)

-- the finite map from the k-th index to the k-th value
abbrev pub over : {X : Type 0} → List ℕ → List X → ℕ → Option X
over [] values i = None
over (x ∷ xs) [] i = None
over (x ∷ xs) (value ∷ values) i = if x == i then Some value else over xs values i

-- the item under the values: the base's, or zero without a base
abbrev pub under : {X : Type 0} → X → Option (List X) → ℕ → X
under nil None i = nil
under nil (Some items) i = slice_index_or items i nil

-- how many items there are: as many as the base has, or n without a base
abbrev pub total : {X : Type 0} → Option (List X) → ℕ → ℕ
total None n = n
total (Some items) n = length items

-- item i
unfoldable pub sparse_item : {X : Type 0} → X → Option (List X) → List ℕ → List X → ℕ → X
sparse_item nil base indices values i =
    unwrap_or (over (front indices values) values i) (under nil base i)

-- all items
unfoldable pub sparse : {X : Type 0} → X → Option (List X) → ℕ → List ℕ → List X → List X
sparse nil base n indices values =
    map (sparse_item nil base indices values) (range_with_len 0 (total base n))

-- the number of binary digits of n, 0 for 0
unfoldable pub digits : ℕ → ℕ
digits n = length (digits_of 2 n)
