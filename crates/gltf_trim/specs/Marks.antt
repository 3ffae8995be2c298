-- How many views of a document stay, where those at the end of the list go that only images name
-- (glTF 2.0, sections 3.6.1, 3.8.3, 3.12 and 5.11).
use Rattle.std.specs.Prelude.{ℕ, zero, suc, List, Bool, true, false, set, replicate}
use Rattle.std.specs.Prelude.{Option, Some, None, option_and_then, codes, get_or}
use Rattle.std.specs.Prelude.{if◌then◌else◌}
use Rattle.serde_json.specs.Data.{Data, Items, no_items, item}
use Rattle.serde_json.specs.Find.{get}
use Rattle.gltf_edit.specs.Bundled.{size_at}
use Rattle.gltf_edit.specs.Embedded.{items_at, count_at}
use Rattle.gltf_trim.specs.Known.{is_plain}

-- f of each item in turn
abbrev pub folded : {S : Type 0} → (Data → S → S) → Items → S → S
folded f no_items s = s
folded f (item d ds) s = folded f ds (f d s)

-- ---- marks: of each view, whether it may go

abbrev pub marked : Bool → Option ℕ → List Bool → List Bool
marked mark None ms = ms
marked mark (Some i) ms = set ms i mark

-- the view that an image names may go
abbrev pub marked_image : Data → List Bool → List Bool
marked_image d ms = marked true (size_at (codes "bufferView") d) ms

-- the view that this part of the sparse part of an accessor names
abbrev pub sparse_view : List ℕ → Data → Option ℕ
sparse_view name d =
    option_and_then (size_at (codes "bufferView"))
    (option_and_then (get name) (get (codes "sparse") d))

-- those that an accessor names may not
abbrev pub marked_accessor : Data → List Bool → List Bool
marked_accessor d ms =
    marked false (sparse_view (codes "values") d)
    (marked false (sparse_view (codes "indices") d)
    (marked false (size_at (codes "bufferView") d) ms))

-- the marks of the views of a document
abbrev pub marks : Data → List Bool
marks d =
    folded marked_accessor (items_at (codes "accessors") d)
    (folded marked_image (items_at (codes "images") d)
    (replicate (count_at (codes "bufferViews") d) false))

-- of the first so many, all stay but those with marks at the end
abbrev pub before_marked : ℕ → List Bool → ℕ
before_marked zero ms = zero
before_marked (suc n) ms = if get_or ms n false then before_marked n ms else suc n

-- so many views of a document stay
abbrev pub staying : Data → ℕ
staying d =
    if is_plain d then before_marked (count_at (codes "bufferViews") d) (marks d)
    else count_at (codes "bufferViews") d
