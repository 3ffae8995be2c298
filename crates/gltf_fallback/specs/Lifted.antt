-- A document in which a view whose buffer has no bytes is what it is compressed to, and the same
-- with its views as they were (EXT_meshopt_compression and KHR_meshopt_compression, "Fallback
-- Buffers").
use Rattle.std.specs.Prelude.{ℕ, List, Option, Some, None, Bool, codes, option_map, unwrap_or}
use Rattle.std.specs.Prelude.{if◌then◌else◌}
use Rattle.serde_json.specs.Data.{Data, string, array, object, no_members, member}
use Rattle.serde_json.specs.Find.{get}
use Rattle.gltf_edit.specs.Bundled.{with_member, with_some, whole, size_or_zero, each_item}
use Rattle.gltf_edit.specs.Bundled.{meshopt, khr_meshopt}
use Rattle.gltf_edit.specs.Embedded.{items_at, with_items}
use Rattle.gltf_fallback.specs.Bare.{said_at, is_bare, first_seat, seats, seat_of, bare_of}

-- the member that keeps what stood there
abbrev pub own : List ℕ
own = codes "gltf_fallback"

-- ---- lifted

abbrev pub or_else : Option Data → Option Data → Option Data
or_else None o = o
or_else (Some d) o = Some d

-- what a view is compressed to
abbrev pub packed : Data → Option Data
packed d = or_else (said_at meshopt d) (said_at khr_meshopt d)

-- a view of that: its buffer, its place and its length are those that the extension says
abbrev pub on_packed : Data → Data → Data
on_packed m d =
    with_some (codes "byteLength") (get (codes "byteLength") m)
    (with_member (codes "byteOffset") (whole (size_or_zero (codes "byteOffset") m))
    (with_some (codes "buffer") (get (codes "buffer") m) d))

-- it keeps the view that it was, which names the buffer by the index that this has then
abbrev pub kept_view : ℕ → Data → Data → Data
kept_view n m d = with_member own (with_member (codes "buffer") (whole n) d) (on_packed m d)

-- a view whose buffer has no bytes, where it is compressed; each other is as it was
abbrev pub lifted_to : Option ℕ → Option Data → Data → Data
lifted_to None m d = d
lifted_to (Some n) None d = d
lifted_to (Some n) (Some m) d = kept_view n m d

abbrev pub lifted_view : List (Option ℕ) → Data → Data
lifted_view all d = lifted_to (seat_of all d) (packed d) d

-- a buffer of no byte, which keeps the buffer for which it stands
abbrev pub stand_in : Data → Data
stand_in d =
    object (member (codes "byteLength") (whole 0)
    (member own d
    (member (codes "uri") (string (codes "data:;base64,")) no_members)))

abbrev pub lifted_buffer : Data → Data
lifted_buffer d = if is_bare d then stand_in d else d

-- a document with f of each item of a list of it
abbrev pub edited_list : List ℕ → (Data → Data) → Data → Data
edited_list k f d = with_some k (option_map (each_item f) (get k d)) d

-- a document with both
abbrev pub lifted : Bool → Data → Data
lifted behind d =
    edited_list (codes "bufferViews")
    (lifted_view (seats behind (first_seat behind) (items_at (codes "buffers") d)))
    (edited_list (codes "buffers") lifted_buffer d)

-- ---- and back

-- what was kept; extensions are those of now
abbrev pub lowered_view : Data → Data
lowered_view d =
    unwrap_or
    (option_map (with_some (codes "extensions") (get (codes "extensions") d)) (get own d)) d

abbrev pub lowered_buffer : Data → Data
lowered_buffer d = unwrap_or (get own d) d

abbrev pub lowered : Data → Data
lowered d =
    edited_list (codes "bufferViews") lowered_view (edited_list (codes "buffers") lowered_buffer d)

-- the buffers that have no bytes, of another document, behind its own
abbrev pub with_bare : Data → Data → Data
with_bare from d =
    with_member (codes "buffers")
    (array
    (with_items (items_at (codes "buffers") d) (bare_of (items_at (codes "buffers") from)))) d
