-- The JSON value of a document with fewer views and shorter buffers (glTF 2.0, sections 5.10 and
-- 5.11).
use Rattle.std.specs.Prelude.{ℕ, List, [], ◌∷◌, Option, Some, None, option_map, codes, ◌==◌}
use Rattle.std.specs.Prelude.{if◌then◌else◌}
use Rattle.serde_json.specs.Data.{Data, null, boolean, number, string, array, object}
use Rattle.serde_json.specs.Data.{Items, no_items, item}
use Rattle.serde_json.specs.Find.{get}
use Rattle.gltf_edit.specs.Bundled.{with_member, with_some, whole}
use Rattle.gltf_edit.specs.Embedded.{without_member}
use Rattle.gltf_trim.specs.Lengths.{take_items, lengths}
use Rattle.gltf_trim.specs.Marks.{staying}

-- ---- views

abbrev pub first_of : ℕ → Data → Data
first_of n null = null
first_of n (boolean b) = boolean b
first_of n (number x) = number x
first_of n (string s) = string s
first_of n (array ds) = array (take_items n ds)
first_of n (object ms) = object ms

-- the first n views of d; where that are none, there is no list, since one has at least one element
abbrev pub with_views : ℕ → Data → Data → Data
with_views n d base =
    if n == 0 then without_member (codes "bufferViews") base
    else with_some (codes "bufferViews")
    (option_map (first_of n) (get (codes "bufferViews") d)) base

-- ---- buffers

abbrev pub short : Option ℕ → Data → Data
short None d = d
short (Some n) d = with_member (codes "byteLength") (whole n) d

abbrev pub first : List (Option ℕ) → Option ℕ
first [] = None
first (l ∷ ls) = l

abbrev pub rest : List (Option ℕ) → List (Option ℕ)
rest [] = []
rest (l ∷ ls) = ls

-- each of them with its own
abbrev pub each_short : List (Option ℕ) → Items → Items
each_short ls no_items = no_items
each_short ls (item d ds) = item (short (first ls) d) (each_short (rest ls) ds)

abbrev pub all_short : List (Option ℕ) → Data → Data
all_short ls null = null
all_short ls (boolean b) = boolean b
all_short ls (number n) = number n
all_short ls (string s) = string s
all_short ls (array ds) = array (each_short ls ds)
all_short ls (object ms) = object ms

abbrev pub with_buffers : List (Option ℕ) → Data → Data → Data
with_buffers ls d base =
    with_some (codes "buffers") (option_map (all_short ls) (get (codes "buffers") d)) base

-- ---- documents

-- the first n views, and buffers of these lengths, where they have some here; all else stays
abbrev pub trimmed_to : ℕ → List (Option ℕ) → Data → Data
trimmed_to n ls d = with_views n d (with_buffers ls d d)

-- without the views at the end that only images name, and without the ends of their buffers, where
-- these have such bytes that the ends may go
abbrev pub trimmed : Data → List (List ℕ) → Data
trimmed d buffers = trimmed_to (staying d) (lengths (staying d) d buffers) d
