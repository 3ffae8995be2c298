-- Images of a document whose images went into buffers of their own, and whose buffers became one
-- (glTF 2.0, section 3.8.3).
use Rattle.std.specs.Prelude.{◌≡◌, ◌≤◌, ◌+◌, ℕ, zero, suc, List, [], ◌∷◌, ◌++◌, length, take, drop}
use Rattle.std.specs.Prelude.{Option, Some, None, option_map, slice_get, string_bytes, codes}
use Rattle.std.specs.Prelude.{option_and_then, String}
use Rattle.std.specs.declared.alloc.Global.{Global}
use Rattle.serde_json.specs.Data.{Data}
use Rattle.serde_json.specs.Find.{get_item}
use Rattle.gltf_json.specs.declared.root.Root.{Root}
use Rattle.gltf_json_geometry.specs.declared.buffer.View.{View}
use Rattle.gltf_json_scene.specs.Images.{image}
use Rattle.gltf_json_scene.specs.declared.image.Image.{Image}
use Rattle.gltf_data.specs.Parts.{view_at, view_offset}
use Rattle.gltf_edit.specs.Embedded.{items_at, seats}
use Rattle.gltf_edit.specs.declared.picture.Picture.{Picture}
use Rattle.gltf_moved.specs.Laws.{IsMoved, one_list}

-- how many pictures stand before index i
abbrev pub seats_before : ℕ → List (Option Picture) → ℕ
seats_before zero ps = 0
seats_before (suc i) [] = 0
seats_before (suc i) (p ∷ ps) = seats p + seats_before i ps

-- image i has no URI: it has this media type, and names a view of these bytes
pub record IsInView (buffers : List (List ℕ)) (s : Root) (i : ℕ) (media bytes : List ℕ)
    : Type 0 where
  pub image : Image
  pub there : slice_get s.images.items i ≡ Some image
  pub no_uri : image.uri ≡ None
  pub type : option_map string_bytes image.mime_type ≡ Some media
  pub index : ℕ
  pub names_view : image.buffer_view ≡ Some index
  pub view : View
  pub view_there : view_at s index ≡ Some view
  pub whole : List ℕ
  pub whole_there : slice_get buffers view.buffer ≡ Some whole
  pub within : view_offset view + view.byte_length ≤ length whole
  pub is_bytes : bytes ≡ take view.byte_length (drop (view_offset view) whole)

-- each image that has a picture has, in the one buffer, the bytes that were given for it, where
-- they are as many as the picture says
abbrev pub ShowsImages : Type 0
ShowsImages =
    (buffers images : List (List ℕ)) (r s : Root) (m : IsMoved buffers images r s)
    (i : ℕ) (e : Data) → get_item i (items_at (codes "images") m.value) ≡ Some e
    → (p : Picture) → slice_get m.pictures i ≡ Some (Some p)
    → (bytes : List ℕ) → slice_get images (seats_before i m.pictures) ≡ Some bytes
    → p.length ≡ length bytes
    → IsInView (one_list (buffers ++ images)) s i (string_bytes p.media) bytes

-- the picture of image i, where it has one
abbrev pub picture_at : ℕ → List (Option Picture) → Option Picture
picture_at i ps = option_and_then (λ p. p) (slice_get ps i)

-- the URI of an image that names this view, or none
abbrev pub own_uri : Option ℕ → Option (String Global) → Option (String Global)
own_uri None uri = uri
own_uri (Some view) uri = None

-- what an image without a picture becomes: where there are pictures, one that names a view has no
-- URI beside it
abbrev pub left : List (Option Picture) → Image → Image
left [] x = x
left (p ∷ ps) x = record x { uri = own_uri x.buffer_view x.uri }

-- there is an image that shows what x shows, and names the same view, where these are the pictures
pub record StaysImage (ps : List (Option Picture)) (x : Image) (after : Option Image) : Type 0 where
  pub image_ : Image
  pub there : after ≡ Some image_
  pub shows : image.content image_ ≡ image.content (left ps x)
  pub view : image_.buffer_view ≡ x.buffer_view

-- each image that has no picture shows what it showed, but for a URI beside a view
abbrev pub KeepsImages : Type 0
KeepsImages =
    (buffers images : List (List ℕ)) (r s : Root) (m : IsMoved buffers images r s)
    (i : ℕ) (x : Image) → slice_get r.images.items i ≡ Some x → picture_at i m.pictures ≡ None
    → StaysImage m.pictures x (slice_get s.images.items i)
