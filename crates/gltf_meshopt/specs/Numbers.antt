-- Numbers as the three modes write them (EXT_meshopt_compression, "Mode 1: triangles" and "Mode 2:
-- indices": varint-7, zigzag).
use Rattle.std.specs.Prelude.{ℕ, zero, suc, ◌+◌, ◌-◌, ◌*◌, ◌/◌, ◌%◌, ◌^◌, List, [], ◌∷◌, Option}
use Rattle.std.specs.Prelude.{Some, None, option_map, nat_lt, ◌==◌, if◌then◌else◌}

-- Seven bits a byte, the low ones first, and the bytes after the number. A byte below 128 is its
-- last one; so is the one
-- after `more` others, of which the high bit says nothing. None: the bytes end before the number
-- does.
abbrev pub sevens : ℕ → List ℕ → Option (ℕ × List ℕ)
sevens more [] = None
sevens zero (b ∷ rest) = Some (b % 128, rest)
sevens (suc more) (b ∷ rest) = if nat_lt b 128 then Some (b, rest) else option_map (λ x. (
  b % 128 +
      128 * x.0,
  x.1,
)) (sevens more rest)

-- A number of 32 bits, in at most five bytes; of the fifth only four bits count.
unfoldable pub number_at : List ℕ → Option (ℕ × List ℕ)
number_at bytes = option_map (λ x. (x.0 % 2 ^ 32, x.1)) (sevens 4 bytes)

-- A number `limit` after which numbers begin again, and a step in zigzag: an even one is half of it
-- forward, an odd one is
-- half of the next number back.
abbrev pub stepped : ℕ → ℕ → ℕ → ℕ
stepped limit last step = if step % 2 == 0 then (last + step / 2) % limit else (last + limit -
    (step + 1) / 2) % limit
