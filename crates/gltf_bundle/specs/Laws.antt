-- Laws over the definitions.
use Rattle.std.specs.Prelude.{◌≡◌, ◌↔◌, ◌++◌, ℕ, List, Option, Some, None, false, All}
use Rattle.std.specs.Prelude.{◌≢◌, ◌+◌, ◌≤◌, length, take, drop}
use Rattle.std.specs.Prelude.{Ok, option_map, string_bytes, slice_get}
use Rattle.serde_json.specs.Written.{has_float}
use Rattle.gltf_json.specs.declared.root.Root.{Root}
use Rattle.gltf_json_geometry.specs.declared.buffer.View.{View}
use Rattle.gltf_json_scene.specs.declared.image.Image.{Image}
use Rattle.gltf_items.specs.declared.item.Item.{Ghosts}
use Rattle.gltf_data.specs.Documents.{ReadsAt}
use Rattle.gltf_data.specs.Parts.{view_at, view_offset}
use Rattle.gltf_buffers.specs.Buffers.{IsMeant}
use Rattle.gltf_names.specs.Named.{Named, File}
use Rattle.gltf_buffers.specs.Names.{Names, Held}
use Rattle.gltf_buffers.specs.Uri.{uri_of}
use Rattle.gltf_required.specs.Import.{IsRead}
use Rattle.gltf_required.specs.Required.{ReadAlike}
use Rattle.gltf_required.specs.declared.required.Required.{Required}
use Rattle.gltf_moved.specs.Images.{IsInView}
use Rattle.gltf_moved.specs.Laws.{IsMoved, one_list, moved_value}
use Rattle.gltf_glb.specs.declared.error.Error.TheVariants.{Memory}
use Rattle.gltf_bundle.specs.Bundle.{IsBundle, IsAcceptedAs, blob_of}
use Rattle.gltf_bundle.specs.Media.{media_of}
use Rattle.gltf_bundle.specs.Refusals.{RefusesBundle}
use Rattle.gltf_bundle.specs.declared.error.BundleError.{BundleError}
use Rattle.gltf_bundle.specs.declared.error.BundleError.TheVariants.{Import}
use Rattle.gltf_bundle.specs.declared.options.Keep.{Keep}
use Rattle.gltf_bundle.specs.declared.options.Keep.TheVariants.{Nothing, Every}

-- whatever a bundle is read as, over any source, whatever rules it breaks: the records are those of
-- the edited value, where it is read as the file was, and the buffers are the one
abbrev pub HasOneBuffer : Type 0
HasOneBuffer =
    (required : Required) (names : Names) (path : List ℕ) (keep : Keep) (answer : List ℕ)
    (is : IsBundle required names path keep answer) (reading : Required) (over : Names) (s : Root)
    (others : List (List ℕ)) → IsRead reading over answer s others
    → (ReadAlike required reading → IsMoved is.buffers is.images is.root_ s)
    × (others ≡ one_list (is.buffers ++ is.images))

-- no buffer has a URI, and no image has one, unless images may stay
abbrev pub NeedsNoFile : Type 0
NeedsNoFile =
    (required : Required) (names : Names) (path : List ℕ) (keep : Keep) (answer : List ℕ)
    → IsBundle required names path keep answer → (reading : Required) (over : Names) (s : Root)
    (others : List (List ℕ)) → IsRead reading over answer s others
    → All (λ b. b.uri ≡ None) s.buffers.items
    × (keep ≡ Nothing → All (λ i. i.uri ≡ None) s.images.items)

-- and each accessor has the items that it has in the file, where the bundle is read as that was
abbrev pub KeepsItems : {X : Type 0} → Ghosts X → Type 0
KeepsItems {X} t =
    (required : Required) (names : Names) (path : List ℕ) (keep : Keep) (answer : List ℕ)
    (is : IsBundle required names path keep answer) (reading : Required)
    → ReadAlike required reading → (over : Names) (s : Root) (others : List (List ℕ))
    → IsRead reading over answer s others → (index : ℕ) (result : Option (List X))
    → ReadsAt t is.root_ (slice_get is.buffers) index result
    ↔ ReadsAt t s (slice_get others) index result

-- an image with this URI, in the file, is image i of the document s: in a view of these buffers,
-- which has the bytes that the URI leads to, with a media type
pub record IsShown (names : Names) (uri : List ℕ) (own : Option (List ℕ))
    (buffers : List (List ℕ)) (s : Root) (i : ℕ) : Type 0 where
  pub bytes : List ℕ
  pub media : List ℕ
  pub meant : IsMeant names (uri_of uri) (Ok bytes)
  pub is_media : media_of uri own bytes ≡ Some media
  pub in_view : IsInView buffers s i media bytes

-- so is each image that has one and names no view, unless images may stay
abbrev pub ShowsImages : Type 0
ShowsImages =
    (required : Required) (names : Names) (path answer : List ℕ)
    (is : IsBundle required names path Nothing answer) (reading : Required)
    → ReadAlike required reading → (over : Names) (s : Root) (others : List (List ℕ))
    → IsRead reading over answer s others
    → (i : ℕ) (image : Image) → slice_get is.root_.images.items i ≡ Some image
    → (uri : List ℕ) → option_map string_bytes image.uri ≡ Some uri → image.buffer_view ≡ None
    → IsShown names uri (option_map string_bytes image.mime_type) others s i

-- an image names a view of these buffers, which lies in its own and has these bytes
pub record IsOfView (buffers : List (List ℕ)) (r : Root) (x : Image) (bytes : List ℕ) : Type 0
  where
    pub index : ℕ
    pub names_view : x.buffer_view ≡ Some index
    pub view : View
    pub view_there : view_at r index ≡ Some view
    pub whole : List ℕ
    pub whole_there : slice_get buffers view.buffer ≡ Some whole
    pub within : view_offset view + view.byte_length ≤ length whole
    pub is_bytes : bytes ≡ take view.byte_length (drop (view_offset view) whole)

-- it is still there: it names a view of the same bytes, and has the same media type
pub record IsStill (buffers : List (List ℕ)) (s : Root) (x : Image) (bytes : List ℕ)
    (after : Option Image) : Type 0 where
  pub image : Image
  pub there : after ≡ Some image
  pub type : option_map string_bytes image.mime_type ≡ option_map string_bytes x.mime_type
  pub of_view : IsOfView buffers s image bytes

-- so is each image that names a view
abbrev pub KeepsImages : Type 0
KeepsImages =
    (required : Required) (names : Names) (path : List ℕ) (keep : Keep) (answer : List ℕ)
    (is : IsBundle required names path keep answer) (reading : Required)
    → ReadAlike required reading → (over : Names) (s : Root) (others : List (List ℕ))
    → IsRead reading over answer s others
    → (i : ℕ) (x : Image) → slice_get is.root_.images.items i ≡ Some x
    → (bytes : List ℕ) → IsOfView is.buffers is.root_ x bytes
    → IsStill others s x bytes (slice_get s.images.items i)

-- ---- once more

-- two bundles have the same JSON value and the same binary buffer; where the value has no float
-- they are the same bytes
pub record IsTheSame {required others : Required} {names over : Names} {path other : List ℕ}
    {keep kept : Keep} {answer again : List ℕ} (is : IsBundle required names path keep answer)
    (more : IsBundle others over other kept again) : Type 0 where
  pub value : moved_value (more.buffers ++ more.images) more.pictures more.value
      ≡ moved_value (is.buffers ++ is.images) is.pictures is.value
  pub blob : blob_of (more.buffers ++ more.images) ≡ blob_of (is.buffers ++ is.images)
  pub bytes : has_float (moved_value (is.buffers ++ is.images) is.pictures is.value) ≡ false
      → again ≡ answer

-- so has a bundle, bundled again out of a source that has it; where images could stay, all do
abbrev pub BundlesAgain : Type 0
BundlesAgain =
    (required : Required) (names : Names) (path : List ℕ) (keep : Keep) (answer : List ℕ)
    (is : IsBundle required names path keep answer) (from : Named → Option (List ℕ))
    (other : List ℕ) → from (File other) ≡ Some answer → (kept : Keep)
    → (keep ≢ Nothing → kept ≡ Every)
    → (others : Required) (again : List ℕ) (more : IsBundle others (Held from) other kept again)
    → IsTheSame is more

-- and it is refused for lack of memory alone, where the source does not fail, these extensions pass
-- for it, and its value has no float
abbrev pub LacksOnlyMemoryAgain : Type 0
LacksOnlyMemoryAgain =
    (required : Required) (names : Names) (path : List ℕ) (keep : Keep) (answer : List ℕ)
    (is : IsBundle required names path keep answer)
    → has_float (moved_value (is.buffers ++ is.images) is.pictures is.value) ≡ false
    → (others : Required) → IsAcceptedAs others answer
    → (from : Named → Option (List ℕ)) (other : List ℕ) → from (File other) ≡ Some answer
    → (kept : Keep) → (keep ≢ Nothing → kept ≡ Every) → (failures : List Named)
    (e : BundleError) → RefusesBundle others (Held from) other kept failures failures e
    → e ≡ Import Memory
