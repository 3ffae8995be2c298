-- Mode 2: indices (EXT_meshopt_compression).
use Rattle.std.specs.Prelude.{ℕ, zero, suc, ◌/◌, ◌%◌, ◌^◌, Bool, ◌||◌, List, [], ◌∷◌, take, Result}
use Rattle.std.specs.Prelude.{Ok, Err, ◌==◌, if◌then◌else◌}
use Rattle.std.specs.List.{flat_map}
use Rattle.std.specs.Int.{w32, to_le_bytes}
use Rattle.gltf_meshopt.specs.declared.fault.Fault.{Fault}
use Rattle.gltf_meshopt.specs.declared.fault.Fault.TheVariants.{Stride}
use Rattle.gltf_meshopt.specs.Numbers.{number_at, stepped}
use Rattle.gltf_meshopt.specs.Reading.{◌>>=◌, item}
use Rattle.gltf_meshopt.specs.Streams.{held}

-- An index as it is stored: its low bytes, the lowest first.
abbrev pub stored : ℕ → ℕ → List ℕ
stored stride index = take stride (to_le_bytes w32 index)

abbrev pub all_stored : ℕ → Result (List ℕ × List ℕ) ℕ → Result (List ℕ × List ℕ) ℕ
all_stored stride read = read >>= λ x. Ok (flat_map (stored stride) x.0, x.1)

-- The index that a number stands for: its low bit chooses one of two baselines, its other bits are
-- the step from there.
abbrev pub index_of : ℕ → ℕ → ℕ → ℕ
index_of even odd number = stepped (2 ^ 32) (if number % 2 == 0 then even else odd) (number / 2)

-- So many indices. Each is the next baseline in place of the one that it came from.
unfoldable pub indices_at : ℕ → ℕ → ℕ → List ℕ → Result (List ℕ × List ℕ) ℕ
indices_at zero even odd bytes = Ok ([], bytes)
indices_at (suc n) even odd bytes = do
  number ← item bytes (number_at bytes)
  others ← indices_at n (if number.0 % 2 == 0 then index_of even odd number.0 else even) (if
      number.0 % 2 == 0 then odd else index_of even odd number.0) number.1
  Ok (index_of even odd number.0 ∷ others.0, others.1)

abbrev pub is_index_stride : ℕ → Bool
is_index_stride stride = (stride == 2) || (stride == 4)

-- What a stream holds: the byte 0xd1, the indices, of which each takes a byte at least, and four
-- bytes more. Both baselines
-- are 0 at first.
unfoldable pub indices : ℕ → ℕ → List ℕ → Result (List ℕ) Fault
indices count stride bytes =
    if is_index_stride stride then held 0xd1 4 count (λ body _. all_stored stride (indices_at count
    0 0 body)) bytes else Err Stride
