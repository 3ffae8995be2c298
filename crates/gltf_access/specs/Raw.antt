-- Bytes where they lie in a buffer: the items of an accessor, a view, an image (glTF 2.0, sections
-- 3.6.2, "Accessors", 3.6.1, "Buffers and Buffer Views", and 3.8.3, "Images").
use Rattle.std.specs.Prelude.{◌≡◌, ℕ, ◌+◌, ◌*◌, ◌≤◌, List, length, take, drop, Option, Some}
use Rattle.std.specs.Prelude.{None, SomeIff, option_map, option_and_then}
use Rattle.gltf_json.specs.declared.root.Root.{Root}
use Rattle.gltf_json_geometry.specs.declared.accessor.Accessor.{Accessor}
use Rattle.gltf_json_geometry.specs.declared.accessor.sparse.Sparse.{Sparse}
use Rattle.gltf_json_geometry.specs.declared.buffer.View.{View}
use Rattle.gltf_json_scene.specs.declared.image.Image.{Image}
use Rattle.gltf_handles.specs.Sizes.{item_size}
use Rattle.gltf_data.specs.Answers.{Results, IsAnswered, AlwaysAnswers}
use Rattle.gltf_data.specs.Parts.{Part, Fits, stride, view_offset, address, view_at, base_part}
use Rattle.gltf_data.specs.Unreadable.{bytes_in}
use Rattle.gltf_access.specs.declared.raw.Bytes.{Bytes}

-- ---- what a closure that gives the bytes of buffers answered

-- where there is a view, that was answered for its buffer; else nothing was
abbrev pub IsAnsweredIn : Results → Root → Option View → Option (List ℕ) → Type 0
IsAnsweredIn Gives r None answer = answer ≡ None
IsAnsweredIn Gives r (Some v) answer = IsAnswered Gives r v.buffer answer

-- what a closure answers for it that answers one buffer always alike
abbrev pub answer_in : (ℕ → Option (List ℕ)) → Option View → Option (List ℕ)
answer_in answer None = None
answer_in answer (Some v) = answer v.buffer

-- so it is by one answer for the buffer of the view, and by what such a closure answers
pub record IsLent (Gives : Results) (r : Root) (v : Option View)
    (IsBy : Option (List ℕ) → Type 0) : Type 0 where
  pub answer : Option (List ℕ)
  pub answered : IsAnsweredIn Gives r v answer
  pub is_by : IsBy answer
  pub alike : (always : ℕ → Option (List ℕ)) → AlwaysAnswers Gives r always
      → IsBy (answer_in always v)

-- ---- views

-- the view is within the bytes of its buffer
abbrev pub ViewFits : View → List ℕ → Type 0
ViewFits v bytes = view_offset v + v.byte_length ≤ length bytes

-- and these are its bytes
abbrev pub raw_view : View → List ℕ → List ℕ
raw_view v bytes = take v.byte_length (drop (view_offset v) bytes)

-- the bytes of a view that is there, where bytes were given and it is within these
abbrev pub IsRawView : Option View → Option (List ℕ) → Option (List ℕ) → Type 0
IsRawView None given result = result ≡ None
IsRawView (Some v) None result = result ≡ None
IsRawView (Some v) (Some bytes) result = SomeIff result (ViewFits v bytes) (raw_view v bytes)

-- ---- accessors

-- bytes, the distance from item to item, and how many items there are
pub record Raw : Type 0 where
  pub bytes : List ℕ
  pub stride : ℕ
  pub count : ℕ

abbrev pub shown : Bytes → Raw
shown b = record { bytes = b.bytes.now; stride = b.stride; count = b.count }

-- the items of a part: their bytes from the first item to the end of the last one
abbrev pub raw_bytes : Part → List ℕ → Raw
raw_bytes p bytes = record {
  bytes = bytes_in p (Some bytes);
  stride = stride p.view p.size;
  count = p.count;
}

-- the items of an accessor that all lie in its view: it has one, and no sparse part
abbrev pub whole_part : Root → Accessor → Option Sparse → Option Part
whole_part r a None = base_part (item_size a) r a
whole_part r a (Some s) = None

abbrev pub part_view : Option Part → Option View
part_view part = option_map (λ p. p.view) part

-- items that are there, where bytes were given and they fit: the view is within these bytes, there
-- are some items, these do not overlap, and the last one ends within the view
abbrev pub IsRawPart : Option Part → Option (List ℕ) → Option Raw → Type 0
IsRawPart None given result = result ≡ None
IsRawPart (Some p) None result = result ≡ None
IsRawPart (Some p) (Some bytes) result = SomeIff result (Fits p bytes) (raw_bytes p bytes)

-- the bytes of item i begin at i strides, all of them, and are those at its address in the buffer
pub record HoldsItem (p : Part) (bytes : List ℕ) (i : ℕ) : Type 0 where
  pub within : i * stride p.view p.size + p.size ≤ length (raw_bytes p bytes).bytes
  pub same : take p.size (drop (i * stride p.view p.size) (raw_bytes p bytes).bytes)
      ≡ take p.size (drop (address p i) bytes)

-- ---- images

-- the view that an image stands in, where it names one
abbrev pub image_view : Root → Image → Option View
image_view r i = option_and_then (view_at r) i.buffer_view
