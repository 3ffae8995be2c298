-- The JSON value of a document whose images go into buffers of their own (glTF 2.0, sections 3.8.3,
-- 5.10, 5.11 and 5.18).
use Rattle.std.specs.Prelude.{◌+◌, ℕ, List, [], ◌∷◌, Option, Some, None, Bool, codes, bytes_eq}
use Rattle.std.specs.Prelude.{◌&&◌}
use Rattle.std.specs.Option.{is_some}
use Rattle.std.specs.Prelude.{option_map, option_and_then, unwrap_or, string_bytes, if◌then◌else◌}
use Rattle.serde_json.specs.Data.{Data, null, boolean, number, string, array, object}
use Rattle.serde_json.specs.Data.{Items, no_items, item, Members, no_members, member}
use Rattle.serde_json.specs.Events.{items_len}
use Rattle.serde_json.specs.Find.{get, as_array, as_str}
use Rattle.gltf_edit.specs.Bundled.{with_member, with_some, whole, size_at}
use Rattle.gltf_edit.specs.declared.picture.Picture.{Picture}

-- ---- words for edits

-- the members but for those at k
abbrev pub without : List ℕ → Members → Members
without k no_members = no_members
without k (member l e ms) = if bytes_eq k l then without k ms else member l e (without k ms)

-- without the member k, where it is an object
abbrev pub without_member : List ℕ → Data → Data
without_member k null = null
without_member k (boolean b) = boolean b
without_member k (number n) = number n
without_member k (string s) = string s
without_member k (array ds) = array ds
without_member k (object ms) = object (without k ms)

-- the items, and more after them
abbrev pub with_items : Items → Items → Items
with_items no_items more = more
with_items (item d ds) more = item d (with_items ds more)

-- the items of a list, none where it is absent
abbrev pub items_at : List ℕ → Data → Items
items_at k d = unwrap_or (option_and_then as_array (get k d)) no_items

-- a list with more at its end, where there is more
abbrev pub list_after : List ℕ → Items → Data → Option Data
list_after k no_items d = None
list_after k (item e es) d = Some (array (with_items (items_at k d) (item e es)))

-- ---- buffers and views

-- a buffer of so many bytes
abbrev pub sized : ℕ → Data
sized n = object (member (codes "byteLength") (whole n) no_members)

-- a buffer for each picture
abbrev pub buffers_of : List (Option Picture) → Items
buffers_of [] = no_items
buffers_of (None ∷ ps) = buffers_of ps
buffers_of (Some p ∷ ps) = item (sized p.length) (buffers_of ps)

-- a view of a whole buffer
abbrev pub view_on : ℕ → ℕ → Data
view_on b n =
    object (member (codes "buffer") (whole b) (member (codes "byteLength") (whole n) no_members))

-- a view for each picture; the buffer of the first has the index b
abbrev pub views_of : ℕ → List (Option Picture) → Items
views_of b [] = no_items
views_of b (None ∷ ps) = views_of b ps
views_of b (Some p ∷ ps) = item (view_on b p.length) (views_of (b + 1) ps)

-- ---- images

-- an image whose bytes are in view n: it has no URI
abbrev pub with_picture : ℕ → Picture → Data → Data
with_picture n p d =
    with_member (codes "mimeType") (string (string_bytes p.media))
    (with_member (codes "bufferView") (whole n) (without_member (codes "uri") d))

-- a member that is a text
abbrev pub text_at : List ℕ → Data → Option (List ℕ)
text_at name d = option_and_then as_str (get name d)

-- the URI of an image that names this view, or none
abbrev pub own_uri_at : Option ℕ → Option (List ℕ) → Option (List ℕ)
own_uri_at None uri = uri
own_uri_at (Some n) uri = None

-- the URI by which an image is read, where it names no view (glTF 2.0, section 3.8.3, forbids both)
abbrev pub own_uri : Data → Option (List ℕ)
own_uri d = own_uri_at (size_at (codes "bufferView") d) (text_at (codes "uri") d)

-- an image has a URI beside the view that it names
abbrev pub has_both : Data → Bool
has_both d = is_some (text_at (codes "uri") d) && is_some (size_at (codes "bufferView") d)

-- an image that names a view is what this holds: it has no URI beside it
abbrev pub sole_if : Bool → Data → Data
sole_if both d = if both then without_member (codes "uri") d else d

abbrev pub sole : Data → Data
sole d = sole_if (has_both d) d

-- an image that has no picture stays as it is, but for that
abbrev pub shown : ℕ → Option Picture → Data → Data
shown n None d = sole d
shown n (Some p) d = with_picture n p d

abbrev pub seats : Option Picture → ℕ
seats None = 0
seats (Some p) = 1

abbrev pub first : List (Option Picture) → Option Picture
first [] = None
first (p ∷ ps) = p

abbrev pub rest : List (Option Picture) → List (Option Picture)
rest [] = []
rest (p ∷ ps) = ps

-- each image with its picture, where the first of these is in view n, and the others follow
abbrev pub pictured : ℕ → List (Option Picture) → Items → Items
pictured n ps no_items = no_items
pictured n ps (item d ds) =
    item (shown n (first ps) d) (pictured (n + seats (first ps)) (rest ps) ds)

abbrev pub pictured_in : ℕ → List (Option Picture) → Data → Data
pictured_in n ps null = null
pictured_in n ps (boolean b) = boolean b
pictured_in n ps (number x) = number x
pictured_in n ps (string s) = string s
pictured_in n ps (array ds) = array (pictured n ps ds)
pictured_in n ps (object ms) = object ms

-- ---- documents

abbrev pub count_at : List ℕ → Data → ℕ
count_at k d = items_len (items_at k d)

-- the images, where there are pictures
abbrev pub images_after : List (Option Picture) → Data → Option Data
images_after [] d = None
images_after (p ∷ ps) d =
    option_map (pictured_in (count_at (codes "bufferViews") d) (p ∷ ps)) (get (codes "images") d)

-- a buffer and a view for each picture, behind those that are there, and the images in these; those
-- without a picture have no URI beside a view; all else stays as it is
abbrev pub embedded : List (Option Picture) → Data → Data
embedded ps d =
    with_some (codes "images") (images_after ps d)
    (with_some (codes "bufferViews")
    (list_after (codes "bufferViews") (views_of (count_at (codes "buffers") d) ps) d)
    (with_some (codes "buffers") (list_after (codes "buffers") (buffers_of ps) d) d))
