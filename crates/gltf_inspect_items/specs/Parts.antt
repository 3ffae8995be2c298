-- A part of an accessor by itself, as its stored indices or the values at these: so many items at
-- an offset in a view (glTF 2.0, sections 3.6.2.3, "Sparse Accessors", and 3.6.2.4, "Data
-- Alignment").
use Rattle.std.specs.Prelude.{ℕ, ◌+◌, ◌&&◌, nat_lt, nat_le, if◌then◌else◌, Bool, List, length}
use Rattle.std.specs.Prelude.{Option, Some, None, option_map}
use Rattle.gltf_json.specs.declared.root.Root.{Root}
use Rattle.gltf_data.specs.Parts.{Part, part_of, stride, view_at, view_offset, addressed}
use Rattle.gltf_data.specs.Unreadable.{bytes_in, items_end}
use Rattle.gltf_inspect_items.specs.Reading.{Bytes}

-- so many items of a size, in the view at an index
abbrev pub part_in : ℕ → Root → ℕ → ℕ → ℕ → Option Part
part_in size r view offset count = option_map (λ v. part_of v offset count size) (view_at r view)

-- there are some items, they do not overlap, the view is within as many bytes, and the last item
-- ends within the view: the conditions under which a part of an accessor can be read
abbrev pub fits : Part → ℕ → Bool
fits p len =
    nat_lt 0 p.count && nat_le p.size (stride p.view p.size)
    && nat_le (view_offset p.view + p.view.byte_length) len
    && nat_le (items_end p) p.view.byte_length

-- the bytes from the first item to the end of the last one
abbrev pub cut : Part → List ℕ → Option (List ℕ)
cut p bytes = if fits p (length bytes) then Some (bytes_in p (Some bytes)) else None

-- the items at their addresses
abbrev pub given : {X : Type 0} → (List ℕ → X) → Part → Option (List ℕ) → Option (List X)
given value p None = None
given value p (Some bytes) =
    if fits p (length bytes) then Some (addressed value p bytes) else None

-- where there is such a view, and bytes are given for its buffer
abbrev pub part_given : {X : Type 0} → (List ℕ → X) → Option Part → Bytes → Option (List X)
part_given value None bytes = None
part_given value (Some p) bytes = given value p (bytes p.view.buffer)
