-- Buffers that have no bytes: those of the views that are compressed, for readers that do not know
-- the compression (EXT_meshopt_compression and KHR_meshopt_compression, "Fallback Buffers"; glTF
-- 2.0, sections 3.12, 5.10 and 5.11).
use Rattle.std.specs.Prelude.{ℕ, ◌+◌, List, [], ◌∷◌, Option, Some, None, Bool, false, codes}
use Rattle.std.specs.Prelude.{option_and_then, slice_get, not, if◌then◌else◌, ◌&&◌, ◌||◌}
use Rattle.std.specs.Option.{is_some}
use Rattle.serde_json.specs.Data.{Data, null, boolean, number, string, array, object}
use Rattle.serde_json.specs.Data.{Items, no_items, item}
use Rattle.serde_json.specs.Find.{get}
use Rattle.gltf_edit.specs.Bundled.{meshopt, khr_meshopt, member_at, size_at}

-- what an extension says of a buffer or of a view
abbrev pub said_at : List ℕ → Data → Option Data
said_at name d = option_and_then (member_at name) (get (codes "extensions") d)

abbrev pub is_true : Option Data → Bool
is_true None = false
is_true (Some null) = false
is_true (Some (boolean b)) = b
is_true (Some (number n)) = false
is_true (Some (string s)) = false
is_true (Some (array ds)) = false
is_true (Some (object ms)) = false

-- one of them says that a buffer is such a one
abbrev pub says_fallback : List ℕ → Data → Bool
says_fallback name d = is_true (option_and_then (get (codes "fallback")) (said_at name d))

abbrev pub is_fallback : Data → Bool
is_fallback d = says_fallback meshopt d || says_fallback khr_meshopt d

-- and no URI leads to its bytes
abbrev pub is_bare : Data → Bool
is_bare d = is_fallback d && not (is_some (member_at (codes "uri") d))

-- the index of the first such buffer, where each has its own, and where they stand behind one other
abbrev pub first_seat : Bool → ℕ
first_seat behind = if behind then 1 else 0

-- that of the next one
abbrev pub next_seat : Bool → ℕ → Data → ℕ
next_seat behind n d = if behind then if is_bare d then n + 1 else n else n + 1

-- the index of each that has no bytes: its own, or where all of them stand behind one other
abbrev pub seats : Bool → ℕ → Items → List (Option ℕ)
seats behind n no_items = []
seats behind n (item d ds) =
    (if is_bare d then Some n else None) ∷ seats behind (next_seat behind n d) ds

-- that of the one that a view names
abbrev pub seat_of : List (Option ℕ) → Data → Option ℕ
seat_of all d =
    option_and_then (λ o. o) (option_and_then (slice_get all) (size_at (codes "buffer") d))

-- those buffers
abbrev pub bare_of : Items → Items
bare_of no_items = no_items
bare_of (item d ds) = if is_bare d then item d (bare_of ds) else bare_of ds
