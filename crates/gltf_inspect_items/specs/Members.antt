-- Which items an accessor has, whatever their order, and however often each is there. A sparse
-- accessor without a view may have far more items than a file has bytes, but few different ones.
use Rattle.std.specs.Prelude.{◌≡◌, ℕ, suc, ◌+◌, ◌&&◌, nat_lt, nat_le, if◌then◌else◌, Bool, true}
use Rattle.std.specs.Prelude.{false, List, [], ◌∷◌, ◌++◌, take, None}
use Rattle.std.specs.List.{list_any}
use Rattle.gltf_json.specs.declared.root.Root.{Root}
use Rattle.gltf_json_geometry.specs.declared.accessor.sparse.Sparse.{Sparse}
use Rattle.gltf_items.specs.declared.item.Item.{Ghosts}
use Rattle.gltf_items.specs.Sparse.{sparse}
use Rattle.gltf_data.specs.Answers.{answer_for}
use Rattle.gltf_data.specs.Parts.{index_part, index_items, value_part, part_items}
use Rattle.gltf_inspect_items.specs.Reading.{Bytes, items_left}
use Rattle.gltf_inspect_items.specs.declared.members.Members.{Members}

-- a test passes for some item of the one list exactly where it does for some item of the other: the
-- same items are in both
pub record HaveSameItems {X : Type 0} (some others : List X) : Type 0 where
  pub any : (test : X → Bool) → list_any test some ≡ list_any test others

-- x, or nothing
abbrev pub one : {X : Type 0} → X → Bool → List X
one x true = x ∷ []
one x false = []

-- the items to be looked at
abbrev pub members_left : {X : Type 0} → {t : Ghosts X} → Members X t → List X
members_left {t = t} m = one t.zero_item m.zero ++ items_left m.others

-- the indices that a sparse part stores, and the values at these
abbrev pub indices_in : Root → Bytes → Sparse → List ℕ
indices_in r bytes s = index_items r s (answer_for bytes (index_part r s))

abbrev pub values_in : {X : Type 0} → Ghosts X → Root → Bytes → Sparse → List X
values_in t r bytes s =
    part_items t.value (value_part t.size r s) (answer_for bytes (value_part t.size r s))

-- n zeros with these values in place of some of them
abbrev pub viewless : {X : Type 0} → Ghosts X → Root → Bytes → ℕ → Sparse → List X
viewless t r bytes n s =
    sparse t.zero_item None n (indices_in r bytes s) (values_in t r bytes s)

-- how many of the stored indices count, from the first one on: as many as rise, from `least` on,
-- and are below the number of items
abbrev pub placed : ℕ → ℕ → List ℕ → ℕ
placed least n [] = 0
placed least n (x ∷ xs) =
    if nat_le least x && nat_lt x n then suc (placed (x + 1) n xs) else 0

-- of n items: the values at the indices that count, and zero where there are more items than these
abbrev pub few : {X : Type 0} → X → ℕ → List ℕ → List X → List X
few nil n indices values =
    one nil (nat_lt (placed 0 n indices) n) ++ take (placed 0 n indices) values
