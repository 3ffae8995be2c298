-- How an item is read out of bytes. Numbers stand there with their lowest byte first (glTF 2.0,
-- 3.6.1 "Buffers and Buffer Views"), and the components of a vector one after the other (3.6.2.4
-- "Data Alignment", but for the columns of small matrices, which are not padded here).
use Rattle.std.specs.Prelude.{◌≡◌, ℕ, zero, suc, ◌-◌, ◌*◌, ◌^◌, ◌≤◌, min, List, [], ◌∷◌, length}
use Rattle.std.specs.Prelude.{take, drop}

-- `value` looks at the first n bytes alone
abbrev pub ReadsFront : {X : Type 0} → ℕ → (List ℕ → X) → Type 0
ReadsFront n value = (bytes : List ℕ) → n ≤ length bytes → value (take n bytes) ≡ value bytes

-- n items one after another, each of `size` bytes
abbrev pub in_row : {X : Type 0} → ℕ → ℕ → (List ℕ → X) → List ℕ → List X
in_row zero size value bytes = []
in_row (suc n) size value bytes = value bytes ∷ in_row n size value (drop size bytes)

-- the bytes of n items in a row, or the greatest `usize` where these are more
abbrev pub row_size : ℕ → ℕ → ℕ
row_size n size = min (n * size) (2 ^ 64 - 1)
