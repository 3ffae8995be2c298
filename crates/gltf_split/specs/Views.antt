-- The bytes of views (glTF 2.0, section 5.11).
use Rattle.std.specs.Prelude.{◌+◌, ℕ, List, length, take, drop, Option, Some, None, nat_le, codes}
use Rattle.std.specs.Prelude.{option_and_then, slice_get, if◌then◌else◌}
use Rattle.serde_json.specs.Data.{Data}
use Rattle.serde_json.specs.Find.{get, at}
use Rattle.gltf_edit.specs.Bundled.{size_at, size_or_zero}

-- so many bytes from a place on, where there are as many
abbrev pub cut : ℕ → ℕ → List ℕ → Option (List ℕ)
cut offset long bytes =
    if nat_le (offset + long) (length bytes) then Some (take long (drop offset bytes)) else None

abbrev pub bytes_at : List (List ℕ) → ℕ → Option (List ℕ)
bytes_at buffers i = slice_get buffers i

-- the bytes of a view, where it lies in its buffer
abbrev pub bytes_in : List (List ℕ) → Data → Option (List ℕ)
bytes_in buffers d =
    option_and_then (cut (size_or_zero (codes "byteOffset") d)
    (size_or_zero (codes "byteLength") d))
    (option_and_then (bytes_at buffers) (size_at (codes "buffer") d))

-- those of the view at an index
abbrev pub view_bytes : List (List ℕ) → Data → ℕ → Option (List ℕ)
view_bytes buffers document i =
    option_and_then (bytes_in buffers)
    (option_and_then (at i) (get (codes "bufferViews") document))
