-- The JSON value of a document whose buffers become one (glTF 2.0, sections 5.10 and 5.11).
use Rattle.std.specs.Prelude.{◌+◌, ◌≤◌, ℕ, List, Option, Some, None, MatchOption, ⊤, codes}
use Rattle.std.specs.Prelude.{option_map, option_and_then, unwrap_or, slice_get}
use Rattle.serde_json.specs.Data.{Data, null, boolean, number, string, array, object, unsigned}
use Rattle.serde_json.specs.Data.{Items, no_items, item, no_members, member, put}
use Rattle.serde_json.specs.Find.{get, as_number, as_u64}
use Rattle.gltf_edit.specs.declared.span.Span.{Span}

-- ---- words for edits

-- with e at the member k, where it is an object
abbrev pub with_member : List ℕ → Data → Data → Data
with_member k e null = null
with_member k e (boolean b) = boolean b
with_member k e (number n) = number n
with_member k e (string s) = string s
with_member k e (array ds) = array ds
with_member k e (object ms) = object (put k e ms)

-- the same where there is one
abbrev pub with_some : List ℕ → Option Data → Data → Data
with_some k None d = d
with_some k (Some e) d = with_member k e d

abbrev pub mapped : (Data → Data) → Items → Items
mapped f no_items = no_items
mapped f (item d ds) = item (f d) (mapped f ds)

-- with f of each item, where it is an array
abbrev pub each_item : (Data → Data) → Data → Data
each_item f null = null
each_item f (boolean b) = boolean b
each_item f (number n) = number n
each_item f (string s) = string s
each_item f (array ds) = array (mapped f ds)
each_item f (object ms) = object ms

abbrev pub whole : ℕ → Data
whole n = number (unsigned n)

-- a member that is a whole number below 2 ^ 64
abbrev pub size_at : List ℕ → Data → Option ℕ
size_at name d = option_and_then as_u64 (option_and_then as_number (get name d))

abbrev pub size_or_zero : List ℕ → Data → ℕ
size_or_zero name d = unwrap_or (size_at name d) 0

-- ---- views

-- where the buffer stands that a view names
abbrev pub span_of : List Span → Data → Option Span
span_of spans d = option_and_then (slice_get spans) (size_at (codes "buffer") d)

abbrev pub LiesIn : Data → Span → Type 0
LiesIn d s = size_or_zero (codes "byteOffset") d + size_or_zero (codes "byteLength") d ≤ s.length

-- a view lies in its buffer
abbrev pub Lies : List Span → Data → Type 0
Lies spans d = MatchOption (span_of spans d) ⊥ (LiesIn d)

-- in the one buffer, so many bytes further on
abbrev pub placed : ℕ → Data → Data
placed p d =
    with_member (codes "byteOffset") (whole (p + size_or_zero (codes "byteOffset") d))
    (with_member (codes "buffer") (whole 0) d)

-- a view in the one buffer: as far after the place of its buffer as it was after its begin
abbrev pub relocated : List Span → Data → Data
relocated spans d = unwrap_or (option_map (λ s. placed s.place d) (span_of spans d)) d

-- the extensions of a view that name a buffer as it does
abbrev pub meshopt : List ℕ
meshopt = codes "EXT_meshopt_compression"

abbrev pub khr_meshopt : List ℕ
khr_meshopt = codes "KHR_meshopt_compression"

-- a member that is null is absent
abbrev pub unless_null : Data → Option Data
unless_null null = None
unless_null (boolean b) = Some (boolean b)
unless_null (number n) = Some (number n)
unless_null (string s) = Some (string s)
unless_null (array ds) = Some (array ds)
unless_null (object ms) = Some (object ms)

abbrev pub member_at : List ℕ → Data → Option Data
member_at name d = option_and_then unless_null (get name d)

-- the extensions of a view, with what one of them says in the one buffer
abbrev pub relocated_at : List ℕ → List Span → Data → Data
relocated_at name spans d = with_some name (option_map (relocated spans) (member_at name d)) d

abbrev pub relocated_extensions : List Span → Data → Data
relocated_extensions spans d = relocated_at khr_meshopt spans (relocated_at meshopt spans d)

-- a view with its extensions
abbrev pub moved : List Span → Data → Data
moved spans d =
    with_some (codes "extensions")
    (option_map (relocated_extensions spans) (get (codes "extensions") d)) (relocated spans d)

-- what an extension says, where it is there, lies in the buffer that it names
abbrev pub LiesAt : List ℕ → List Span → Data → Type 0
LiesAt name spans d = MatchOption (member_at name d) ⊤ (Lies spans)

-- so do both
pub record ExtensionLies (spans : List Span) (d : Data) : Type 0 where
  pub first : LiesAt meshopt spans d
  pub second : LiesAt khr_meshopt spans d

-- a view lies in its buffer, and so does what is compressed of it
pub record IsPlaced (spans : List Span) (d : Data) : Type 0 where
  pub alone : Lies spans d
  pub extended : MatchOption (get (codes "extensions") d) ⊤ (ExtensionLies spans)

-- ---- documents

-- the list of one buffer of so many bytes, in place of a list of some
abbrev pub one_of : ℕ → Items → Items
one_of total no_items = no_items
one_of total (item d ds) =
    item (object (member (codes "byteLength") (whole total) no_members)) no_items

abbrev pub one_buffer : ℕ → Data → Data
one_buffer total null = null
one_buffer total (boolean b) = boolean b
one_buffer total (number n) = number n
one_buffer total (string s) = string s
one_buffer total (array ds) = array (one_of total ds)
one_buffer total (object ms) = object ms

-- the members of a document that change, where they are there
abbrev pub buffers_after : ℕ → Data → Option Data
buffers_after total d = option_map (one_buffer total) (get (codes "buffers") d)

abbrev pub views_after : List Span → Data → Option Data
views_after spans d = option_map (each_item (moved spans)) (get (codes "bufferViews") d)

-- one buffer of so many bytes in place of all, which stand in it there; all else stays as it is
abbrev pub bundled : List Span → ℕ → Data → Data
bundled spans total d =
    with_some (codes "buffers") (buffers_after total d)
    (with_some (codes "bufferViews") (views_after spans d) d)

abbrev pub AllPlaced : List Span → Items → Type 0
AllPlaced spans no_items = ⊤
AllPlaced spans (item d ds) = IsPlaced spans d × AllPlaced spans ds

abbrev pub EachPlaced : List Span → Data → Type 0
EachPlaced spans null = ⊤
EachPlaced spans (boolean b) = ⊤
EachPlaced spans (number n) = ⊤
EachPlaced spans (string s) = ⊤
EachPlaced spans (array ds) = AllPlaced spans ds
EachPlaced spans (object ms) = ⊤

-- each view of a document lies in its buffer, and so does what is compressed of it
abbrev pub ArePlaced : List Span → Data → Type 0
ArePlaced spans d = MatchOption (get (codes "bufferViews") d) ⊤ (EachPlaced spans)
