-- Where the buffers of a document end once views at the end of the list go (glTF 2.0, sections
-- 3.6.1, 5.10 and 5.11).
use Rattle.std.specs.Prelude.{ℕ, zero, suc, ◌+◌, ◌-◌, ◌^◌, ◌==◌, List, [], ◌∷◌, Bool, true, false}
use Rattle.std.specs.Prelude.{set, replicate, min, max, nat_lt, nat_le, get_or, length}
use Rattle.std.specs.Prelude.{Option, Some, None, codes, if◌then◌else◌, ◌&&◌}
use Rattle.serde_json.specs.Data.{Data, Items, no_items, item}
use Rattle.gltf_edit.specs.Bundled.{size_at, size_or_zero}
use Rattle.gltf_edit.specs.Embedded.{items_at, count_at}
use Rattle.gltf_trim.specs.Marks.{folded, marked}

abbrev pub take_items : ℕ → Items → Items
take_items zero ds = no_items
take_items (suc n) no_items = no_items
take_items (suc n) (item d ds) = item d (take_items n ds)

abbrev pub drop_items : ℕ → Items → Items
drop_items zero ds = ds
drop_items (suc n) no_items = no_items
drop_items (suc n) (item d ds) = drop_items n ds

-- the buffer of a view that goes may become shorter
abbrev pub marked_buffer : Data → List Bool → List Bool
marked_buffer d ms = marked true (size_at (codes "buffer") d) ms

-- as far as a number of 64 bits goes
abbrev pub in_64_bits : ℕ → ℕ
in_64_bits n = min n (2 ^ 64 - 1)

-- ---- views in their buffers

-- where a view ends in its buffer
abbrev pub view_end : Data → ℕ
view_end d =
    in_64_bits (size_or_zero (codes "byteOffset") d + size_or_zero (codes "byteLength") d)

abbrev pub raised : Option ℕ → ℕ → List ℕ → List ℕ
raised None end ends = ends
raised (Some b) end ends = set ends b (max (get_or ends b 0) end)

-- the buffer of a view that stays has all its bytes
abbrev pub raised_by : Data → List ℕ → List ℕ
raised_by d ends = raised (size_at (codes "buffer") d) (view_end d) ends

abbrev pub is_index : ℕ → Option ℕ → Bool
is_index b None = false
is_index b (Some i) = i == b

-- place i is from one place up to another
abbrev pub is_between : ℕ → ℕ → ℕ → Bool
is_between from to i = nat_le from i && nat_lt i to

-- the byte at place i of buffer b is in this view
abbrev pub is_in : ℕ → ℕ → Data → Bool
is_in b i d =
    is_index b (size_at (codes "buffer") d)
    && is_between (size_or_zero (codes "byteOffset") d) (view_end d) i

-- it is in one of these
abbrev pub is_in_some : ℕ → ℕ → Items → Bool
is_in_some b i no_items = false
is_in_some b i (item d ds) = if is_in b i d then true else is_in_some b i ds

-- ---- bytes behind the views that stay

-- where these views go, the byte at place i of buffer b may go too: it is in one of them, or zero
abbrev pub may_go : Items → ℕ → List ℕ → ℕ → Bool
may_go gone b bytes i = if is_in_some b i gone then true else get_or bytes i 0 == 0

-- f holds at each of n places from e on
abbrev pub holds_from : (ℕ → Bool) → ℕ → ℕ → Bool
holds_from f e zero = true
holds_from f e (suc n) = if f (e + n) then holds_from f e n else false

-- where these views go, so may all that stands in buffer b from place e on
abbrev pub all_may_go : Items → ℕ → List ℕ → ℕ → Bool
all_may_go gone b bytes e = holds_from (may_go gone b bytes) e (length bytes - e)

-- ---- lengths

-- how many bytes a buffer has that becomes shorter: at least one
abbrev pub shorter : ℕ → Data → Option ℕ
shorter end d =
    if nat_lt (max end 1) (in_64_bits (size_or_zero (codes "byteLength") d)) then Some (max end 1)
    else None

abbrev pub shorter_if : Bool → ℕ → Data → Option ℕ
shorter_if may end d = if may then shorter end d else None

-- that of each buffer, from index i on
abbrev pub all_shorter : (ℕ → Bool) → List ℕ → ℕ → Items → List (Option ℕ)
all_shorter may ends i no_items = []
all_shorter may ends i (item d ds) =
    shorter_if (may i) (get_or ends i 0) d ∷ all_shorter may ends (i + 1) ds

-- of each buffer of a document, how many bytes it has once only the first n views stay, where it
-- becomes shorter: the buffer of a view that goes ends where the last of the others ends, if all
-- that stands behind may go
abbrev pub lengths : ℕ → Data → List (List ℕ) → List (Option ℕ)
lengths n d buffers =
    let views = items_at (codes "bufferViews") d in
    let gone = drop_items n views in
    let count = count_at (codes "buffers") d in
    let marks = folded marked_buffer gone (replicate count false) in
    let ends = folded raised_by (take_items n views) (replicate count 0) in
    all_shorter
    (λ b. get_or marks b false && all_may_go gone b (get_or buffers b []) (get_or ends b 0))
    ends 0 (items_at (codes "buffers") d)
