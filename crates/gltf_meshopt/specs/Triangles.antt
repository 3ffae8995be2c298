-- Mode 1: triangles (EXT_meshopt_compression).
use Rattle.std.specs.Prelude.{ℕ, ◌+◌, ◌-◌, ◌/◌, ◌%◌, ◌^◌, Bool, true, false, ◌&&◌, List, [], ◌∷◌}
use Rattle.std.specs.Prelude.{take, drop, replicate, slice_index, Option, Some, option_map}
use Rattle.std.specs.Prelude.{option_and_then, Result, Ok, Err, nat_le, nat_lt, ◌==◌, if◌then◌else◌}
use Rattle.gltf_meshopt.specs.declared.corners.Corner.{Corner}
use Rattle.gltf_meshopt.specs.declared.corners.State.{State}
use Rattle.gltf_meshopt.specs.declared.fault.Fault.{Fault}
use Rattle.gltf_meshopt.specs.declared.fault.Fault.TheVariants.{Stride, Count}
use Rattle.gltf_meshopt.specs.Numbers.{number_at, stepped}
use Rattle.gltf_meshopt.specs.Reading.{◌>>=◌, item}
use Rattle.gltf_meshopt.specs.Streams.{held}
use Rattle.gltf_meshopt.specs.Attributes.{next_byte}
use Rattle.gltf_meshopt.specs.Indices.{all_stored, is_index_stride}

-- ---- The queues: sixteen vertices, and the first and the second vertices of sixteen edges. The
-- newest comes first.

abbrev pub enqueue : ℕ → List ℕ → List ℕ
enqueue x xs = x ∷ take 15 xs

-- A corner of a triangle has its index, and says whether that goes into the queue of vertices,
-- which index is the next new one
-- after it, and which one was stored last.
abbrev pub queued : Corner → List ℕ → List ℕ
queued c vertices = if c.queued then enqueue c.index vertices else vertices

-- ---- Corners.

-- The next new vertex.
abbrev pub new_corner : ℕ → ℕ → Corner
new_corner next last = record {
  index = next;
  queued = true;
  next = (next + 1) % 2 ^ 32;
  last =
      last;
}

-- One of the queue.
abbrev pub recent_corner : ℕ → ℕ → ℕ → Corner
recent_corner vertex next last = record { index = vertex; queued = false; next = next; last = last }

-- One that is stored as a step from the last one that was.
abbrev pub stepped_corner : ℕ → ℕ → Corner
stepped_corner vertex next = record { index = vertex; queued = true; next = next; last = vertex }

abbrev pub stored_corner : ℕ → ℕ → List ℕ → Option (Corner × List ℕ)
stored_corner next last bytes = option_map (λ x. (
  stepped_corner (stepped (2 ^ 32) last x.0) next,
  x.1,
)) (number_at bytes)

-- The corner that four bits name beside an edge: 0 the next new one, 1 to 12 one of the queue, 13
-- and 14 the one before and
-- behind the last one that was stored, 15 one that is stored.
unfoldable pub corner_beside : ℕ → List ℕ → ℕ → ℕ → List ℕ → Option (Corner × List ℕ)
corner_beside bits vertices next last bytes =
    if bits == 0 then Some (new_corner next last, bytes)
    else (if nat_lt bits 13 then Some (recent_corner (slice_index vertices bits) next last, bytes)
    else (if bits == 13 then Some (stepped_corner ((last + 2 ^ 32 - 1) % 2 ^ 32) next, bytes)
    else (if bits == 14 then Some (stepped_corner ((last + 1) % 2 ^ 32) next, bytes) else
    stored_corner next last bytes)))

-- The corner that four bits name in a triangle with no known edge: 0 the next new one, from 1 on
-- those of the queue; where
-- corners may be stored, 15 is one that is.
unfoldable pub corner_at : Bool → ℕ → List ℕ → ℕ → ℕ → List ℕ → Option (Corner × List ℕ)
corner_at may_store bits vertices next last bytes =
    if bits == 0 then Some (new_corner next last, bytes)
    else (if may_store && (bits == 15) then stored_corner next last bytes else Some (
      recent_corner
          (slice_index vertices (bits - 1)) next last,
      bytes,
    ))

-- ---- Triangles.

-- With an edge of the queue: its two vertices and a third corner.
unfoldable pub beside_edge : ℕ → State → List ℕ → Option ((ℕ × ℕ × ℕ) × State × List ℕ)
beside_edge code s bytes =
    let a = slice_index s.firsts (code / 16) in
    let b = slice_index s.seconds (code / 16) in
    option_map (λ x. (
      (a, b, x.0.index),
      record {
        firsts = enqueue a (enqueue x.0.index s.firsts);
        seconds = enqueue x.0.index (enqueue b s.seconds);
        vertices = queued x.0 s.vertices;
        next = x.0.next;
        last = x.0.last;
      },
      x.1,
    )) (corner_beside (code % 16) s.vertices s.next s.last bytes)

-- The four bits each of the second and the third corner: of the table, or for 14 and 15 a byte of
-- its own.
abbrev pub two_corners : List ℕ → ℕ → List ℕ → Option (ℕ × List ℕ)
two_corners table bits bytes = if nat_lt bits 14 then Some (slice_index table bits, bytes) else
    next_byte bytes

abbrev pub three_corners : State → Corner → Corner → Corner → List ℕ → (ℕ × ℕ × ℕ) × State × List ℕ
three_corners s a b c bytes = (
  (a.index, b.index, c.index),
  record {
    firsts = enqueue a.index (enqueue c.index (enqueue b.index s.firsts));
    seconds = enqueue c.index (enqueue b.index (enqueue a.index s.seconds));
    vertices = queued c (queued b (queued a s.vertices));
    next = c.next;
    last = c.last;
  },
  bytes,
)

-- With no known edge: the first corner is the next new one, or for 15 one that is stored. Where a
-- byte of its own is 0, new
-- ones begin at 0 again.
unfoldable pub without_edge : List ℕ → ℕ → State → List ℕ → Option ((ℕ × ℕ × ℕ) × State × List ℕ)
without_edge table bits s bytes =
    option_and_then (λ two. option_and_then (λ a. option_and_then (λ b. option_map (λ c.
    three_corners s a.0 b.0 c.0 c.1)
    (corner_at (nat_le 14 bits) (two.0 % 16) s.vertices b.0.next b.0.last b.1))
    (corner_at (nat_le 14 bits) (two.0 / 16) s.vertices a.0.next a.0.last a.1))
    (corner_at true (if bits == 15 then 15 else 0) s.vertices (if nat_le 14 bits && (two.0 == 0)
    then 0 else s.next) s.last two.1))
    (two_corners table bits bytes)

-- The triangle of a code.
abbrev pub triangle_at : List ℕ → ℕ → State → List ℕ → Option ((ℕ × ℕ × ℕ) × State × List ℕ)
triangle_at table code s bytes = if nat_lt code 0xf0 then beside_edge code s bytes else
    without_edge table (code % 16) s bytes

-- The corners of a triangle for each code.
unfoldable pub triangles_at : List ℕ → List ℕ → State → List ℕ → Result (List ℕ × List ℕ) ℕ
triangles_at table [] s bytes = Ok ([], bytes)
triangles_at table (code ∷ codes) s bytes = do
  triangle ← item bytes (triangle_at table code s bytes)
  others ← triangles_at table codes triangle.1 triangle.2
  Ok (triangle.0.0 ∷ triangle.0.1 ∷ triangle.0.2 ∷ others.0, others.1)

-- ---- A stream.

abbrev pub start : State
start = record {
  firsts = replicate 16 (2 ^ 32 - 1);
  seconds = replicate 16 (2 ^ 32 - 1);
  vertices
      = replicate 16 (2 ^ 32 - 1);
  next = 0;
  last = 0;
}

abbrev pub corners_at : ℕ → ℕ → List ℕ → List ℕ → Result (List ℕ × List ℕ) ℕ
corners_at count stride body table = all_stored stride (triangles_at table (take (count / 3) body)
    start (drop (count / 3) body))

-- What a stream holds: the byte 0xe1, a code for each triangle, what is stored of corners, and the
-- table of sixteen bytes.
unfoldable pub triangles : ℕ → ℕ → List ℕ → Result (List ℕ) Fault
triangles count stride bytes =
    if is_index_stride stride then (if count % 3 == 0 then held 0xe1 16 (count / 3) (corners_at
    count stride) bytes else Err Count) else Err Stride
