-- What is read of files that are converted there and back (glTF 2.0, sections 3.6.1 and 3.6.2).
use Rattle.std.specs.Prelude.{◌≡◌, ◌≢◌, ◌↔◌, ℕ, List, Option, Some, None, Bool, Ok, slice_get}
use Rattle.std.specs.Prelude.{option_map, string_bytes}
use Rattle.gltf_json.specs.declared.root.Root.{Root}
use Rattle.gltf_json_scene.specs.declared.image.Image.{Image}
use Rattle.gltf_items.specs.declared.item.Item.{Ghosts}
use Rattle.gltf_data.specs.Documents.{ReadsAt}
use Rattle.gltf_names.specs.Named.{File}
use Rattle.gltf_buffers.specs.Buffers.{IsMeant}
use Rattle.gltf_buffers.specs.Names.{Names, Held}
use Rattle.gltf_buffers.specs.Uri.{uri_of}
use Rattle.gltf_required.specs.Import.{IsRead}
use Rattle.gltf_required.specs.Required.{ReadAlike}
use Rattle.gltf_required.specs.declared.required.Required.{Required}
use Rattle.gltf_detach.specs.Naming.{uri_of_part}
use Rattle.gltf_detach.specs.declared.part.Part.{Part}
use Rattle.gltf_detached.specs.Laws.{HoldsPart}
use Rattle.gltf_moved.specs.Images.{IsInView}
use Rattle.gltf_bundle.specs.Bundle.{IsBundle}
use Rattle.gltf_bundle.specs.Laws.{IsOfView}
use Rattle.gltf_bundle.specs.Media.{media_of, named_media, own_media}
use Rattle.gltf_bundle.specs.declared.options.Keep.{Keep}
use Rattle.gltf_bundle.specs.declared.options.Keep.TheVariants.{Nothing, Every}
use Rattle.gltf_split.specs.Laws.{Holds, HoldsBuffers}
use Rattle.gltf_split.specs.Splits.{IsSplit}
use Rattle.gltf_split.specs.declared.splitting.Pieces.{Pieces}

-- where a source has the text of a set and the files of its buffers, the container of this text has
-- at each accessor the items of the file that the set is of, whatever it is read as; all three are
-- read alike
abbrev pub KeepsItemsThere : {X : Type 0} → Ghosts X → Type 0
KeepsItemsThere {X} t =
    (required : Required) (names : Names) (path stem : List ℕ) (keep : Keep) (drop : Bool)
    (set : Pieces)
    (is : IsSplit required names path stem keep drop set) (there : Holds) → HoldsBuffers there set
    → (other : List ℕ) → there (File other) ≡ Some (string_bytes set.json)
    → (passing : Required) → ReadAlike required passing → (kept : Keep) (answer : List ℕ)
    → IsBundle passing (Held there) other kept answer
    → (reading : Required) → ReadAlike passing reading
    → (over : Names) (s : Root) (others : List (List ℕ)) → IsRead reading over answer s others
    → (index : ℕ) (result : Option (List X))
    → ReadsAt t is.root_ (slice_get is.whole) index result
    ↔ ReadsAt t s (slice_get others) index result

-- where a source has a container, the set of it has at each accessor the items of the file that the
-- container is of, whatever its text is read as over a source that has the files of its buffers
abbrev pub KeepsItemsBack : {X : Type 0} → Ghosts X → Type 0
KeepsItemsBack {X} t =
    (required : Required) (names : Names) (path : List ℕ) (keep : Keep) (answer : List ℕ)
    (is : IsBundle required names path keep answer) (from : Holds) (other : List ℕ)
    → from (File other) ≡ Some answer
    → (passing : Required) → ReadAlike required passing
    → (stem : List ℕ) (kept : Keep) (drop : Bool) (set : Pieces)
    → IsSplit passing (Held from) other stem kept drop set
    → (reading : Required) → ReadAlike passing reading
    → (there : Holds) → HoldsBuffers there set → (s : Root) (others : List (List ℕ))
    → IsRead reading (Held there) (string_bytes set.json) s others
    → (index : ℕ) (result : Option (List X))
    → ReadsAt t is.root_ (slice_get is.buffers) index result
    ↔ ReadsAt t s (slice_get others) index result

-- ---- images (glTF 2.0, section 3.8.3)

-- image i of s is in a view of the bytes of this file, with the media type of x, where it is one of
-- images, or else with that which the bytes begin as; the URI of a file names none
pub record HasImage (buffers : List (List ℕ)) (s : Root) (i : ℕ) (x : Image) (p : Part)
    : Type 0 where
  pub media : List ℕ
  pub is_media : media_of (uri_of_part p) (option_map string_bytes x.mime_type) p.bytes.items
      ≡ Some media
  pub in_view : IsInView buffers s i media p.bytes.items

-- where a source has the text of a set and the file of an image x of the file that the set is of,
-- the container of this text has the bytes of this file for the image, whatever it is read as
abbrev pub KeepsImagesThere : Type 0
KeepsImagesThere =
    (required : Required) (names : Names) (path stem : List ℕ) (keep : Keep) (drop : Bool)
    (set : Pieces) (is : IsSplit required names path stem keep drop set) (there : Holds)
    (other : List ℕ) → there (File other) ≡ Some (string_bytes set.json)
    → (passing : Required) → ReadAlike required passing → (answer : List ℕ)
    → IsBundle passing (Held there) other Nothing answer
    → (reading : Required) → ReadAlike passing reading
    → (over : Names) (s : Root) (others : List (List ℕ)) → IsRead reading over answer s others
    → (i : ℕ) (p : Part) → slice_get set.images.items i ≡ Some (Some p) → HoldsPart there p
    → (x : Image) → slice_get is.root_.images.items i ≡ Some x
    → HasImage others s i x p

-- image i of s is in a view of these bytes, with the media type that an image with this `mimeType`
-- has: this one, where it is one of images, or else that which the bytes begin as
pub record IsHeld (buffers : List (List ℕ)) (s : Root) (i : ℕ) (own : Option (List ℕ))
    (bytes : List ℕ) : Type 0 where
  pub media : List ℕ
  pub is_media : own_media own bytes ≡ Some media
  pub in_view : IsInView buffers s i media bytes

-- a URI names no other media type than this `mimeType`
abbrev pub NamesNoOther : List ℕ → Option (List ℕ) → Type 0
NamesNoOther uri own = (media : List ℕ) → named_media uri ≡ Some media → own ≡ Some media

-- an image with this URI, in the file that a set is of, is image i of the container of the set: with
-- the bytes that the URI leads to there, and with the media type that it has there, where the URI
-- names no other than its `mimeType`
pub record IsHeldOfUri (names : Names) (uri : List ℕ) (own : Option (List ℕ))
    (buffers : List (List ℕ)) (s : Root) (i : ℕ) : Type 0 where
  pub bytes : List ℕ
  pub meant : IsMeant names (uri_of uri) (Ok bytes)
  pub held : IsHeld buffers s i own bytes
  pub type_ : NamesNoOther uri own → media_of uri own bytes ≡ Some held.media

-- a source has the bytes of all files of images
abbrev pub HoldsImages : Holds → Pieces → Type 0
HoldsImages there set =
    (i : ℕ) (p : Part) → slice_get set.images.items i ≡ Some (Some p) → HoldsPart there p

-- where a source has the text of a set and the files of its images, each image of the file that the
-- set is of, in a view or with a URI alone, has the same bytes in the container of this text, and the
-- same media type, whatever it is read as, unless images are kept, where all are read alike
abbrev pub HoldsEachImage : Type 0
HoldsEachImage =
    (required : Required) (names : Names) (path stem : List ℕ) (keep : Keep) → keep ≢ Every
    → (drop : Bool) (set : Pieces) (is : IsSplit required names path stem keep drop set)
    (there : Holds) → HoldsImages there set
    → (other : List ℕ) → there (File other) ≡ Some (string_bytes set.json)
    → (passing : Required) → ReadAlike required passing → (answer : List ℕ)
    → IsBundle passing (Held there) other Nothing answer
    → (reading : Required) → ReadAlike passing reading
    → (over : Names) (s : Root) (others : List (List ℕ)) → IsRead reading over answer s others
    → (i : ℕ) (x : Image) → slice_get is.root_.images.items i ≡ Some x
    → ((bytes : List ℕ) → IsOfView is.whole is.root_ x bytes
    → IsHeld others s i (option_map string_bytes x.mime_type) bytes)
    × (keep ≡ Nothing → (uri : List ℕ) → option_map string_bytes x.uri ≡ Some uri
    → x.buffer_view ≡ None
    → IsHeldOfUri names uri (option_map string_bytes x.mime_type) others s i)

-- image i of s has a URI, which leads to these bytes, and this media type; it names no view
pub record HasFile (there : Holds) (s : Root) (i : ℕ) (type : Option (List ℕ)) (bytes : List ℕ)
    : Type 0 where
  pub image : Image
  pub is_there : slice_get s.images.items i ≡ Some image
  pub uri : List ℕ
  pub has_uri : option_map string_bytes image.uri ≡ Some uri
  pub no_view : image.buffer_view ≡ None
  pub meant : IsMeant (Held there) (uri_of uri) (Ok bytes)
  pub type_ : option_map string_bytes image.mime_type ≡ type

-- an image with this URI, in the file that a container is of, is image i of the set of it: with the
-- bytes that the URI leads to there, and the media type that the container has for it
pub record HasFileOfUri (names : Names) (uri : List ℕ) (own : Option (List ℕ)) (there : Holds)
    (s : Root) (i : ℕ) : Type 0 where
  pub bytes : List ℕ
  pub media : List ℕ
  pub meant : IsMeant names (uri_of uri) (Ok bytes)
  pub is_media : media_of uri own bytes ≡ Some media
  pub file : HasFile there s i (Some media) bytes

-- where a source has a container, each image of the file that the container is of, in a view or with
-- a URI alone, has in the set of it a file with the same bytes, whatever its text is read as over a
-- source that has the files of images, unless images are kept, where all are read alike
abbrev pub KeepsImagesBack : Type 0
KeepsImagesBack =
    (required : Required) (names : Names) (path answer : List ℕ)
    (is : IsBundle required names path Nothing answer) (from : Holds) (other : List ℕ)
    → from (File other) ≡ Some answer
    → (passing : Required) → ReadAlike required passing
    → (stem : List ℕ) (kept : Keep) → kept ≢ Every → (drop : Bool) (set : Pieces)
    → IsSplit passing (Held from) other stem kept drop set
    → (reading : Required) → ReadAlike passing reading
    → (there : Holds) → HoldsImages there set → (s : Root) (others : List (List ℕ))
    → IsRead reading (Held there) (string_bytes set.json) s others
    → (i : ℕ) (x : Image) → slice_get is.root_.images.items i ≡ Some x
    → ((bytes : List ℕ) → IsOfView is.buffers is.root_ x bytes
    → HasFile there s i (option_map string_bytes x.mime_type) bytes)
    × ((uri : List ℕ) → option_map string_bytes x.uri ≡ Some uri → x.buffer_view ≡ None
    → HasFileOfUri names uri (option_map string_bytes x.mime_type) there s i)
