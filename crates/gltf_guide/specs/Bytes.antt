-- What the examples say of the bytes of accessors (glTF 2.0, section 3.6.2, "Accessors"), over the
-- bytes of each buffer of the document, in their order.
use Rattle.std.specs.Prelude.{◌≡◌, ℕ, List, Option, Some, None, SomeIff, option_map, slice_get}
use Rattle.std.specs.Prelude.{MatchOption}
use Rattle.std.specs.Borrow.{Bor}
use Rattle.std.specs.List.{concat}
use Rattle.gltf_json.specs.declared.root.Root.{Root}
use Rattle.gltf_json_geometry.specs.declared.accessor.Accessor.{Accessor}
use Rattle.gltf_handles.specs.Handle.{Handle}
use Rattle.gltf_handles.specs.Sizes.{item_size}
use Rattle.gltf_data.specs.Answers.{answers_by}
use Rattle.gltf_data.specs.Documents.{accessor_at}
use Rattle.gltf_data.specs.Parts.{Readable, items}
use Rattle.gltf_data.specs.Unreadable.{where_all_hold, conditions}
use Rattle.gltf_read.specs.Kinds.{kind_of, three_floats}
use Rattle.gltf_access.specs.Flat.{as_bytes}
use Rattle.gltf_access.specs.Raw.{Raw, IsRawPart, whole_part, part_view, answer_in}
use Rattle.gltf_access.specs.Why.{IsOfType, reason_of}
use Rattle.gltf_access.specs.declared.not_read.NotRead.{NotRead}
use Rattle.gltf_access.specs.declared.not_read.NotRead.TheVariants as reason

-- the bytes from the first item to the end of the last one, where all items lie in the bytes of one
-- buffer, and the distance from item to item; none where they do not lie so
pub record LieAs (a : Handle Accessor) (buffers : List (List ℕ))
    (found : Option (Bor (List ℕ) × ℕ)) : Type 0 where
  pub raw : Option Raw
  pub lie : let part = whole_part a.document a.json a.json.sparse in
      IsRawPart part (answer_in (slice_get buffers) (part_view part)) raw
  pub bytes : option_map (λ f. f.0.now) found ≡ option_map (λ r. r.bytes) raw
  pub stride : option_map (λ f. f.1) found ≡ option_map (λ r. r.stride) raw

-- the bytes of all items, one item after the other; none where the accessor cannot be read
abbrev pub AreBytesOf : Handle Accessor → List (List ℕ) → Option (List ℕ) → Type 0
AreBytesOf a buffers found =
    let t = as_bytes (item_size a.json) in
    let answers = answers_by (slice_get buffers) t.size a.document a.json in
    SomeIff found (Readable t.size a.document a.json answers)
    (concat (items t a.document a.json answers))

-- why items of so many bytes cannot be read: the first of their conditions that fails; none where
-- all hold
abbrev pub first_failing : ℕ → Root → Accessor → List (List ℕ) → Option NotRead
first_failing size r a buffers =
    reason_of (where_all_hold (conditions size r a (answers_by (slice_get buffers) size r a)) a)

-- why the accessor at an index has no positions: there is none, its items are not three floats, or
-- these cannot be read
abbrev pub IsWhyNoPositions : Root → List (List ℕ) → Option ℕ → Option NotRead → Type 0
IsWhyNoPositions r buffers None why = why ≡ Some reason.Absent
IsWhyNoPositions r buffers (Some i) why =
    (a : Accessor) × (accessor_at r i ≡ Some a)
    × MatchOption (kind_of three_floats a) (IsOfType a why)
    (λ size. why ≡ first_failing size r a buffers)
