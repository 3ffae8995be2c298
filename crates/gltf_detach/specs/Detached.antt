-- The JSON value of a document whose buffers and images are in files of their own (glTF 2.0,
-- sections 2.8, 5.10 and 5.18).
use Rattle.std.specs.Prelude.{List, [], ◌∷◌, map, Option, Some, None, option_map, codes, ℕ}
use Rattle.std.specs.Prelude.{string_bytes}
use Rattle.std.specs.declared.alloc.Global.{Global}
use Rattle.std.specs.declared.string.String.{String}
use Rattle.serde_json.specs.Data.{Data, null, boolean, number, string, array, object}
use Rattle.serde_json.specs.Data.{Items, no_items, item}
use Rattle.serde_json.specs.Find.{get}
use Rattle.gltf_edit.specs.Bundled.{with_member, with_some}
use Rattle.gltf_edit.specs.Embedded.{without_member}
use Rattle.gltf_detach.specs.declared.owner.Owner.{Owner}
use Rattle.gltf_detach.specs.declared.owner.Owner.TheVariants as owner

-- the bytes of texts that may be absent
abbrev pub texts : List (Option (String Global)) → List (Option (List ℕ))
texts us = map (option_map string_bytes) us

abbrev pub with_uri : List ℕ → Data → Data
with_uri u d = with_member (codes "uri") (string u) d

-- what has a URI here has it; an image names no view then
abbrev pub elsewhere : Owner → Option (List ℕ) → Data → Data
elsewhere o None d = d
elsewhere owner.Buffer (Some u) d = with_uri u d
elsewhere owner.Image (Some u) d = with_uri u (without_member (codes "bufferView") d)

abbrev pub first : List (Option (List ℕ)) → Option (List ℕ)
first [] = None
first (u ∷ us) = u

abbrev pub rest : List (Option (List ℕ)) → List (Option (List ℕ))
rest [] = []
rest (u ∷ us) = us

-- each of them with its own
abbrev pub each_elsewhere : Owner → List (Option (List ℕ)) → Items → Items
each_elsewhere o us no_items = no_items
each_elsewhere o us (item d ds) = item (elsewhere o (first us) d) (each_elsewhere o (rest us) ds)

abbrev pub all_elsewhere : Owner → List (Option (List ℕ)) → Data → Data
all_elsewhere o us null = null
all_elsewhere o us (boolean b) = boolean b
all_elsewhere o us (number n) = number n
all_elsewhere o us (string s) = string s
all_elsewhere o us (array ds) = array (each_elsewhere o us ds)
all_elsewhere o us (object ms) = object ms

abbrev pub list_of : Owner → List ℕ
list_of owner.Buffer = codes "buffers"
list_of owner.Image = codes "images"

-- the list of a document, where it is there
abbrev pub list_elsewhere : Owner → List (Option (List ℕ)) → Data → Option Data
list_elsewhere o us d = option_map (all_elsewhere o us) (get (list_of o) d)

-- the buffers and the images have these URIs, where they have some here; all else stays as it is
abbrev pub detached : List (Option (List ℕ)) → List (Option (List ℕ)) → Data → Data
detached buffers images d =
    with_some (codes "buffers") (list_elsewhere owner.Buffer buffers d)
    (with_some (codes "images") (list_elsewhere owner.Image images d) d)
