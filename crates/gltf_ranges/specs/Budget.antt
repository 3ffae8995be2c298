-- How many bytes the items of accessors take, and which items are left out where all together take
-- more than a budget (glTF 2.0, section 3.6.2).
use Rattle.std.specs.Prelude.{ℕ, ◌+◌, ◌-◌, ◌*◌, ◌==◌, nat_le, if◌then◌else◌, Bool, true, false}
use Rattle.std.specs.Prelude.{List, [], ◌∷◌, map, Option, Some, None, option_map, slice_get, get_or}
use Rattle.std.specs.Prelude.{unwrap_or}
use Rattle.gltf_json.specs.declared.root.Root.{Root}
use Rattle.gltf_json_geometry.specs.declared.buffer.View.{View}
use Rattle.gltf_json_geometry.specs.declared.accessor.Accessor.{Accessor}
use Rattle.gltf_json_geometry.specs.declared.accessor.sparse.Sparse.{Sparse}
use Rattle.gltf_handles.specs.Sizes.{item_size, stored_size}

-- so many bytes where there is room for them; else they cannot be read, and take none
abbrev pub within : ℕ → ℕ → ℕ
within bytes room = if nat_le bytes room then bytes else 0

-- the bytes of the view at an index
abbrev pub room : Root → ℕ → ℕ
room r i = unwrap_or (option_map (λ (v : View). v.byte_length) (slice_get r.buffer_views.items i)) 0

-- the bytes of the items in a view
abbrev pub base_price : Root → Accessor → Option ℕ → ℕ
base_price r a None = 0
base_price r a (Some view) = within (a.count * item_size a) (room r view)

-- those of stored indices, and of the values at these
abbrev pub sparse_price : Root → Accessor → Option Sparse → ℕ
sparse_price r a None = 0
sparse_price r a (Some s) =
    within (s.count * stored_size s.indices) (room r s.indices.buffer_view)
    + within (s.count * item_size a) (room r s.values.buffer_view)

-- those of an accessor
abbrev pub price : Root → Accessor → ℕ
price r a = base_price r a a.buffer_view + sparse_price r a a.sparse

-- of accessors from index i on: those whose items were taken before take no more
abbrev pub prices : Root → List ℕ → ℕ → List Accessor → List ℕ
prices r firsts i [] = []
prices r firsts i (a ∷ accessors) =
    (if get_or firsts i i == i then price r a else 0) ∷ prices r firsts (i + 1) accessors

-- one after the other, those for which the budget is not enough
abbrev pub too_dear : ℕ → List ℕ → List Bool
too_dear budget [] = []
too_dear budget (price ∷ others) =
    if nat_le price budget then false ∷ too_dear (budget - price) others
    else true ∷ too_dear budget others

-- an accessor is left out where the first that reads the same is
abbrev pub left_out : ℕ → Root → List ℕ → List Bool
left_out budget r firsts =
    map (λ (first : ℕ). get_or (too_dear budget (prices r firsts 0 r.accessors.items)) first false)
    firsts

-- what those take that are not left out
abbrev pub taken : ℕ → List ℕ → ℕ
taken budget [] = 0
taken budget (price ∷ others) =
    if nat_le price budget then price + taken (budget - price) others else taken budget others

-- what all take
abbrev pub total : List ℕ → ℕ
total [] = 0
total (price ∷ others) = price + total others

-- none is left out
abbrev pub none_of : List Bool → Bool
none_of [] = true
none_of (true ∷ marks) = false
none_of (false ∷ marks) = none_of marks
