-- What is read of a document whose images went into buffers of their own, and whose buffers became
-- one (glTF 2.0, sections 3.6.2 and 3.8.3).
use Rattle.std.specs.Prelude.{◌≡◌, ◌↔◌, ◌<◌, ◌^◌, ℕ, List, [], ◌∷◌, ◌++◌, Option, length, slice_get}
use Rattle.serde_json.specs.Data.{Data}
use Rattle.gltf_json.specs.Documents.{root}
use Rattle.gltf_json.specs.declared.root.Root.{Root}
use Rattle.gltf_validation.specs.Documents.{Faults}
use Rattle.gltf_items.specs.declared.item.Item.{Ghosts}
use Rattle.gltf_data.specs.Documents.{ReadsAt}
use Rattle.gltf_edit.specs.Joined.{joined, spans_from}
use Rattle.gltf_edit.specs.Bundled.{bundled, ArePlaced}
use Rattle.gltf_edit.specs.Embedded.{embedded}
use Rattle.gltf_edit.specs.declared.picture.Picture.{Picture}

-- the one buffer in place of all, where there are some
abbrev pub one_list : List (List ℕ) → List (List ℕ)
one_list [] = []
one_list (bytes ∷ more) = joined (bytes ∷ more) ∷ []

-- the value with the images in their buffers, and all buffers in one
abbrev pub moved_value : List (List ℕ) → List (Option Picture) → Data → Data
moved_value all ps value = bundled (spans_from 0 all) (length (joined all)) (embedded ps value)

-- no rule is broken but those of the names in `extensionsRequired`: with some other names there,
-- none is
abbrev pub BreaksNoOther : Root → Type 0
BreaksNoOther r =
    (left : Root) × (Faults left ≡ [])
    × (left ≡ record r { extensions_required = left.extensions_required })

-- s is the document r, which has these buffers, with pictures for its images, whose bytes are those
-- behind, where all buffers became one
pub record IsMoved (buffers images : List (List ℕ)) (r s : Root) : Type 0 where
  pub value : Data
  pub pictures : List (Option Picture)
  pub before : root.is value r
  pub rules : BreaksNoOther r
  pub count : length buffers ≡ length r.buffers.items
  pub after : root.is (moved_value (buffers ++ images) pictures value) s
  pub placed : ArePlaced (spans_from 0 (buffers ++ images)) (embedded pictures value)
  pub fits : length (joined (buffers ++ images)) < 2 ^ 32

-- it has the same items at each accessor
abbrev pub KeepsItems : {X : Type 0} → Ghosts X → Type 0
KeepsItems {X} t =
    (buffers images : List (List ℕ)) (r s : Root) → IsMoved buffers images r s
    → (index : ℕ) (result : Option (List X))
    → ReadsAt t r (slice_get buffers) index result
    ↔ ReadsAt t s (slice_get (one_list (buffers ++ images))) index result
