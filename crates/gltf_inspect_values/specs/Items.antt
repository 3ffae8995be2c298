-- The items of an accessor as their bytes (glTF 2.0, section 3.6.2, "Accessors").
use Rattle.std.specs.Prelude.{ℕ, zero, suc, ◌<◌, List, take, replicate}
use Rattle.std.proofs.Common.{arith, refl}
use Rattle.std.proofs.lemmas.List.{take-take}
use Rattle.gltf_json.specs.declared.root.Root.{Root}
use Rattle.gltf_json_geometry.specs.declared.accessor.Accessor.{Accessor}
use Rattle.gltf_handles.specs.Sizes.{item_size}
use Rattle.gltf_items.specs.Reading.{ReadsFront}
use Rattle.gltf_items.specs.declared.item.Item.{Ghosts}
use Rattle.gltf_inspect_items.specs.Reading.{Bytes, items_at}

-- an item of n bytes; one of no bytes takes up one, since each item has bytes
abbrev pub front : ℕ → ℕ
front zero = 1
front (suc n) = suc n

pub front-positive : (n : ℕ) → 0 < front n
front-positive zero = omega arith
front-positive (suc n) = omega arith

pub front-reads_front : (n : ℕ) → ReadsFront (front n) (take n)
front-reads_front zero bytes h = refl
front-reads_front (suc n) bytes h = take-take (suc n) (suc n) bytes (omega arith)

-- it is its bytes
abbrev pub as_bytes : (n : ℕ) → Ghosts (List ℕ)
as_bytes n = record { size = front n; value = take n; zero_item = replicate n 0 }

-- the bytes of each item of accessor i, which is a: those that readers read, with the sparse values
-- in their places; none where it cannot be read
abbrev pub item_bytes : Root → Bytes → ℕ → Accessor → List (List ℕ)
item_bytes r bytes i a = items_at (as_bytes (item_size a)) r bytes i
