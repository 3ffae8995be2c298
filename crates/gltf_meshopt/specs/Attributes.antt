-- Mode 0: attributes (EXT_meshopt_compression).
use Rattle.std.specs.Prelude.{ℕ, zero, suc, ◌+◌, ◌-◌, ◌*◌, ◌/◌, ◌%◌, ◌^◌, min, max, Bool, ◌&&◌}
use Rattle.std.specs.Prelude.{List, [], ◌∷◌, ◌++◌, length, map, take, drop, replicate, slice_index}
use Rattle.std.specs.Prelude.{Option, Some, None, option_map, option_and_then, Result, Ok, Err}
use Rattle.std.specs.Prelude.{nat_le, nat_lt, ◌==◌, if◌then◌else◌}
use Rattle.std.specs.List.{flat_map, range_with_len}
use Rattle.gltf_meshopt.specs.declared.fault.Fault.{Fault}
use Rattle.gltf_meshopt.specs.declared.fault.Fault.TheVariants.{Stride}
use Rattle.gltf_meshopt.specs.Numbers.{stepped}
use Rattle.gltf_meshopt.specs.Reading.{◌>>=◌, item}
use Rattle.gltf_meshopt.specs.Streams.{held}

-- ---- A group: sixteen deltas, by the two bits of its width.

-- The cells of a byte, the high bits first: four of two bits, or two of four bits.
abbrev pub pairs : ℕ → List ℕ
pairs b = b / 64 ∷ b / 16 % 4 ∷ b / 4 % 4 ∷ b % 4 ∷ []

abbrev pub halves : ℕ → List ℕ
halves b = b / 16 ∷ b % 16 ∷ []

-- A cell's delta: the cell, but the greatest one stands for the next of the bytes after all cells.
abbrev pub next_byte : List ℕ → Option (ℕ × List ℕ)
next_byte [] = None
next_byte (b ∷ bytes) = Some (b, bytes)

abbrev pub delta_of : ℕ → ℕ → List ℕ → Option (ℕ × List ℕ)
delta_of greatest cell bytes = if cell == greatest then next_byte bytes else Some (cell, bytes)

abbrev pub deltas_of : ℕ → List ℕ → List ℕ → Option (List ℕ × List ℕ)
deltas_of greatest [] bytes = Some ([], bytes)
deltas_of greatest (cell ∷ cells) bytes = option_and_then (λ d. option_map (λ x. (d.0 ∷ x.0, x.1))
    (deltas_of greatest cells d.1)) (delta_of greatest cell bytes)

-- Width 0: all deltas are 0, and there are no bytes. 1 and 2: cells of two and four bits. 3: the
-- bytes are the deltas.
unfoldable pub group_at : ℕ → List ℕ → Option (List ℕ × List ℕ)
group_at zero bytes = Some (replicate 16 0, bytes)
group_at (suc zero) bytes = if nat_lt (length bytes) 4 then None else deltas_of 3 (flat_map pairs
    (take 4 bytes)) (drop 4 bytes)
group_at (suc (suc zero)) bytes = if nat_lt (length bytes) 8 then None else deltas_of 15 (flat_map
    halves (take 8 bytes)) (drop 8 bytes)
group_at (suc (suc (suc more))) bytes = if nat_lt (length bytes) 16 then None else Some (
  take 16
      bytes,
  drop 16 bytes,
)

-- ---- A column: the deltas of one byte of each element of a block.

-- The width of a group: two bits of the column's header, of which each byte has four widths, the
-- first in its low bits.
abbrev pub width_of : List ℕ → ℕ → ℕ
width_of header group = slice_index header (group / 4) / 2 ^ (2 * (group % 4)) % 4

-- So many groups from this one on.
unfoldable pub groups_at : ℕ → ℕ → List ℕ → List ℕ → Result (List ℕ × List ℕ) ℕ
groups_at zero group header bytes = Ok ([], bytes)
groups_at (suc left) group header bytes = do
  deltas ← item bytes (group_at (width_of header group) bytes)
  others ← groups_at left (group + 1) header deltas.1
  Ok (deltas.0 ++ others.0, others.1)

unfoldable pub column_at : ℕ → List ℕ → Result (List ℕ × List ℕ) ℕ
column_at groups bytes =
    let header = (groups + 3) / 4 in
    if nat_lt (length bytes) header then Err (length bytes) else groups_at groups 0 (take header
    bytes) (drop header bytes)

-- So many columns, one after the other.
unfoldable pub columns_at : ℕ → ℕ → List ℕ → Result (List ℕ × List ℕ) ℕ
columns_at zero groups bytes = Ok ([], bytes)
columns_at (suc left) groups bytes = do
  column ← column_at groups bytes
  others ← columns_at left groups column.1
  Ok (column.0 ++ others.0, others.1)

-- ---- A block: elements, each by its deltas from the one before it.

-- The element with this index in a block whose columns have `size` deltas each: byte for byte, a
-- zigzag step from the one before.
unfoldable pub element : ℕ → List ℕ → ℕ → List ℕ → List ℕ
element size deltas index before = map (λ k. stepped 256 (slice_index before k) (slice_index deltas
    (k * size + index))) (range_with_len 0 (length before))

-- So many elements from this one on, and the last of them.
unfoldable pub elements : ℕ → List ℕ → ℕ → ℕ → List ℕ → List ℕ
elements size deltas zero index before = []
elements size deltas (suc left) index before = element size deltas index before ++ elements size
    deltas left (index + 1) (element size deltas index before)

unfoldable pub last_element : ℕ → List ℕ → ℕ → ℕ → List ℕ → List ℕ
last_element size deltas zero index before = before
last_element size deltas (suc left) index before = last_element size deltas left (index + 1)
    (element size deltas index before)

abbrev pub groups_for : ℕ → ℕ
groups_for n = (n + 15) / 16

-- So many blocks of `most` elements, the last one with those that are left.
unfoldable pub blocks_at : ℕ → ℕ → ℕ → List ℕ → List ℕ → Result (List ℕ × List ℕ) ℕ
blocks_at most zero left before bytes = Ok ([], bytes)
blocks_at most (suc more) left before bytes = do
  deltas ← columns_at (length before) (groups_for (min most left)) bytes
  others ← blocks_at most more (left - min most left) (last_element (16 * groups_for (min most
      left)) deltas.0 (min most left) 0 before) deltas.1
  Ok (
    elements (16 * groups_for (min most left)) deltas.0 (min most left) 0 before ++ others.0,
    others.1,
  )

-- ---- A stream.

-- The elements of a whole block: no more than 256, a multiple of 16, of no more than 8192 bytes.
abbrev pub block_size : ℕ → ℕ
block_size stride = min (8192 / stride / 16 * 16) 256

abbrev pub is_attribute_stride : ℕ → Bool
is_attribute_stride stride = nat_le 4 stride && nat_le stride 256 && (stride % 4 == 0)

abbrev pub tail_size : ℕ → ℕ
tail_size stride = max stride 32

abbrev pub elements_at : ℕ → ℕ → List ℕ → List ℕ → Result (List ℕ × List ℕ) ℕ
elements_at count stride body tail = blocks_at (block_size stride) ((count + block_size stride - 1)
    / block_size stride) count (drop (length tail - stride) tail) body

-- What a stream holds: the byte 0xa0, the blocks, of which each column has a byte for 64 elements
-- at least, and a tail that
-- ends with the element before the first one.
unfoldable pub attributes : ℕ → ℕ → List ℕ → Result (List ℕ) Fault
attributes count stride bytes =
    if is_attribute_stride stride then held 0xa0 (tail_size stride) (count / 64 * stride)
    (elements_at count stride) bytes else Err Stride
