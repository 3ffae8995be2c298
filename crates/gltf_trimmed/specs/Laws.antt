-- What is read of a document with fewer views and shorter buffers (glTF 2.0, sections 3.6.1 and
-- 3.6.2).
use Rattle.std.specs.Prelude.{◌≡◌, ◌≤◌, ◌%◌, ◌↔◌, ℕ, List, [], ◌∷◌, length, take, get_or, slice_get}
use Rattle.std.specs.Prelude.{Option, Some, None, true, false, codes, ◌⊎◌}
use Rattle.serde_json.specs.Data.{Data, Items}
use Rattle.gltf_edit.specs.Embedded.{items_at}
use Rattle.gltf_json.specs.Documents.{root}
use Rattle.gltf_json.specs.declared.root.Root.{Root}
use Rattle.gltf_json_geometry.specs.declared.buffer.Buffer.{Buffer}
use Rattle.gltf_items.specs.declared.item.Item.{Ghosts}
use Rattle.gltf_data.specs.Documents.{ReadsAt}
use Rattle.gltf_buffers.specs.Padding.{padded}
use Rattle.gltf_trim.specs.Lengths.{lengths, take_items, drop_items, is_in_some}
use Rattle.gltf_trim.specs.Marks.{staying}
use Rattle.gltf_trim.specs.Tails.{byte_at}
use Rattle.gltf_trim.specs.Trimmed.{trimmed, first, rest}

-- what is left of the bytes of a buffer of this length, where it has a new one: the first of them,
-- with zeros up to a multiple of four, as the import keeps those of a buffer
abbrev pub cut : Option ℕ → List ℕ → List ℕ
cut None bytes = bytes
cut (Some n) bytes = padded (take n bytes)

abbrev pub cut_all : List (Option ℕ) → List (List ℕ) → List (List ℕ)
cut_all ls [] = []
cut_all ls (bytes ∷ more) = cut (first ls) bytes ∷ cut_all (rest ls) more

-- what is left of the bytes of the buffers of a document
abbrev pub trimmed_bytes : Data → List (List ℕ) → List (List ℕ)
trimmed_bytes d buffers = cut_all (lengths (staying d) d buffers) buffers

-- the views that stay, and those that go
abbrev pub views_left : Data → Items
views_left d = take_items (staying d) (items_at (codes "bufferViews") d)

abbrev pub views_gone : Data → Items
views_gone d = drop_items (staying d) (items_at (codes "bufferViews") d)

-- these are bytes of a buffer, as the import keeps them
pub record AreBytesOf (b : Buffer) (bytes : List ℕ) : Type 0 where
  pub long : b.byte_length ≤ length bytes
  pub fours : length bytes % 4 ≡ 0

-- r is read of d, and its buffers have these bytes
pub record IsReadOver (d : Data) (r : Root) (buffers : List (List ℕ)) : Type 0 where
  pub is : root.is d r
  pub count : length buffers ≡ length r.buffers.items
  pub each : (i : ℕ) (b : Buffer) → slice_get r.buffers.items i ≡ Some b
      → AreBytesOf b (get_or buffers i [])

-- whatever the trimmed document is read as, it has the same items at each accessor, over the bytes
-- that are left
abbrev pub KeepsItems : {X : Type 0} → Ghosts X → Type 0
KeepsItems {X} t =
    (d : Data) (r : Root) (buffers : List (List ℕ)) → IsReadOver d r buffers
    → (s : Root) → root.is (trimmed d buffers) s → (index : ℕ) (result : Option (List X))
    → ReadsAt t r (slice_get buffers) index result
    ↔ ReadsAt t s (slice_get (trimmed_bytes d buffers)) index result

-- and it is read, over these bytes, with the images as they were
abbrev pub IsReadTrimmed : Type 0
IsReadTrimmed =
    (d : Data) (r : Root) (buffers : List (List ℕ)) → IsReadOver d r buffers
    → (s : Root) × IsReadOver (trimmed d buffers) s (trimmed_bytes d buffers)
    × (s.images ≡ r.images)

-- each byte that is in a view that stays, or in none that goes, is left at its place, where zeros
-- stand behind the end of a buffer
abbrev pub KeepsBytes : Type 0
KeepsBytes =
    (d : Data) (buffers : List (List ℕ)) (b i : ℕ)
    → (is_in_some b i (views_left d) ≡ true) ⊎ (is_in_some b i (views_gone d) ≡ false)
    → byte_at (trimmed_bytes d buffers) b i ≡ byte_at buffers b i
