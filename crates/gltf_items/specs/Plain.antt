-- The items that stand in bytes at the multiples of a stride (glTF 2.0, 3.6.2.4 "Data Alignment":
-- item i of an accessor begins i strides after the first one).
use Rattle.std.specs.Prelude.{ℕ, ◌+◌, ◌-◌, ◌*◌, ◌/◌, List, map, length, drop}
use Rattle.std.specs.List.{range_with_len}

-- how many multiples of the stride leave room for `size` bytes within n: those i with i * stride +
-- size ≤ n
abbrev pub fitting : ℕ → ℕ → ℕ → ℕ
fitting size stride n = (n + stride - size) / stride

-- item i is what the bytes from i * stride spell, for each i with i * stride + size ≤ length bytes
unfoldable pub plain : {X : Type 0} → ℕ → (List ℕ → X) → List ℕ → ℕ → List X
plain size value bytes stride =
    map (λ i. value (drop (i * stride) bytes))
    (range_with_len 0 (fitting size stride (length bytes)))
