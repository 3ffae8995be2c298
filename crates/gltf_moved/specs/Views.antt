-- Views of a document whose images went into buffers of their own, and whose buffers became one
-- (glTF 2.0, section 3.6.1).
use Rattle.std.specs.Prelude.{◌≡◌, ◌≤◌, ◌+◌, ◌++◌, ℕ, List, Option, Some, length, take, drop}
use Rattle.std.specs.Prelude.{slice_get}
use Rattle.gltf_json.specs.declared.root.Root.{Root}
use Rattle.gltf_json_geometry.specs.declared.buffer.View.{View}
use Rattle.gltf_data.specs.Parts.{view_at, view_offset}
use Rattle.gltf_edit.specs.Joined.{joined}
use Rattle.gltf_moved.specs.Laws.{IsMoved}

-- the view w of the one buffer has the bytes that v has in its own, and the same stride
pub record HasBytesOf (bytes whole : List ℕ) (v w : View) : Type 0 where
  pub first : w.buffer ≡ 0
  pub long : w.byte_length ≡ v.byte_length
  pub stride : w.byte_stride ≡ v.byte_stride
  pub before : view_offset v + v.byte_length ≤ length bytes
  pub after : view_offset w + w.byte_length ≤ length whole
  pub same : take w.byte_length (drop (view_offset w) whole)
      ≡ take v.byte_length (drop (view_offset v) bytes)

-- there is such a view, where v is one of these buffers
pub record StaysView (buffers images : List (List ℕ)) (v : View) (after : Option View)
    : Type 0 where
  pub view : View
  pub there : after ≡ Some view
  pub bytes : List ℕ
  pub its : slice_get buffers v.buffer ≡ Some bytes
  pub has : HasBytesOf bytes (joined (buffers ++ images)) v view

-- no view has other bytes than before
abbrev pub KeepsViews : Type 0
KeepsViews =
    (buffers images : List (List ℕ)) (r s : Root) → IsMoved buffers images r s
    → (i : ℕ) (v : View) → view_at r i ≡ Some v → StaysView buffers images v (view_at s i)
