-- Laws over the definitions.
use Rattle.std.specs.Prelude.{◌≡◌, ◌≢◌, ◌↔◌, ℕ, List, [], ◌∷◌, ◌++◌, Option, Some, None, Bool, ⊤}
use Rattle.std.specs.Prelude.{slice_get, string_bytes, Ok, option_map, map, codes}
use Rattle.gltf_json.specs.Documents.{root}
use Rattle.gltf_json.specs.declared.root.Root.{Root}
use Rattle.gltf_json_scene.specs.declared.image.Image.{Image}
use Rattle.gltf_items.specs.declared.item.Item.{Ghosts}
use Rattle.gltf_data.specs.Documents.{ReadsAt}
use Rattle.gltf_detach.specs.declared.part.Part.{Part}
use Rattle.gltf_detach.specs.Naming.{buffer_uris, image_uris, uri_of_part}
use Rattle.gltf_detached.specs.Laws.{IsDetached, HoldsPart}
use Rattle.gltf_names.specs.Named.{Named}
use Rattle.gltf_buffers.specs.Buffers.{IsMeant}
use Rattle.gltf_buffers.specs.Names.{Names, Held}
use Rattle.gltf_buffers.specs.Uri.{uri_of}
use Rattle.gltf_required.specs.Import.{AcceptsAs, IsRead}
use Rattle.gltf_required.specs.Required.{ReadAlike, as_read}
use Rattle.gltf_bundle.specs.Laws.{IsOfView}
use Rattle.gltf_required.specs.declared.required.Required.{Required}
use Rattle.gltf_split.specs.Splits.{IsSplit, IsValidTextAs, bytes_of_parts, value_left}
use Rattle.gltf_split.specs.declared.splitting.Pieces.{Pieces}
use Rattle.gltf_bundle.specs.declared.options.Keep.{Keep}
use Rattle.gltf_bundle.specs.declared.options.Keep.TheVariants.{Nothing, Every}

abbrev pub Holds : Type 0
Holds = Named → Option (List ℕ)

-- a source has the bytes of all files of buffers
abbrev pub HoldsBuffers : Holds → Pieces → Type 0
HoldsBuffers there set =
    (i : ℕ) (p : Part) → slice_get set.buffers.items i ≡ Some p → HoldsPart there p

-- the text of a set is imported, over a source of these files, where these extensions pass
abbrev pub IsAcceptedOver : Required → Holds → Pieces → Type 0
IsAcceptedOver required there set =
    (s : Root) × (others : List (List ℕ)) × AcceptsAs required (Held there)
    (string_bytes set.json) s others

-- so it is over each source that has the files of its buffers, where it is read as the file was
abbrev pub IsTakenOver : Type 0
IsTakenOver =
    (required : Required) (names : Names) (path stem : List ℕ) (keep : Keep) (drop : Bool)
    (set : Pieces)
    → IsSplit required names path stem keep drop set → (passing : Required)
    → ReadAlike required passing → IsValidTextAs passing (string_bytes set.json)
    → (there : Holds) → HoldsBuffers there set → IsAcceptedOver passing there set

-- whatever the text of a set is read as, whatever rules it breaks, as the file was read, where a
-- source has the files of its buffers: the records are those of the edited value, whatever is read
-- of what is left of the value of the file, and the buffers have the bytes of the files
abbrev pub HasItsBuffers : Type 0
HasItsBuffers =
    (required : Required) (names : Names) (path stem : List ℕ) (keep : Keep) (drop : Bool)
    (set : Pieces)
    (is : IsSplit required names path stem keep drop set) (reading : Required)
    → ReadAlike required reading → (there : Holds) → HoldsBuffers there set
    → (s : Root) (others : List (List ℕ)) → IsRead reading (Held there)
    (string_bytes set.json) s others
    → ((r : Root) → root.is (as_read required (value_left drop is.value is.whole)) r
    → IsDetached (buffer_uris set.buffers.items) (image_uris set.images.items) r s)
    × (others ≡ bytes_of_parts set.buffers.items)

-- and each accessor has the items that it has in the file
abbrev pub KeepsItems : {X : Type 0} → Ghosts X → Type 0
KeepsItems {X} t =
    (required : Required) (names : Names) (path stem : List ℕ) (keep : Keep) (drop : Bool)
    (set : Pieces)
    (is : IsSplit required names path stem keep drop set) (reading : Required)
    → ReadAlike required reading → (there : Holds) → HoldsBuffers there set
    → (s : Root) (others : List (List ℕ)) → IsRead reading (Held there)
    (string_bytes set.json) s others
    → (index : ℕ) (result : Option (List X))
    → ReadsAt t is.root_ (slice_get is.whole) index result
    ↔ ReadsAt t s (slice_get others) index result

-- image i of s has the URI of this file, which leads to its bytes, and no view; the media type is
-- that of x
pub record IsShown (there : Holds) (p : Part) (x : Image) (s : Root) (i : ℕ) : Type 0 where
  pub image : Image
  pub is_there : slice_get s.images.items i ≡ Some image
  pub uri : List ℕ
  pub own : uri ≡ uri_of_part p
  pub has_uri : option_map string_bytes image.uri ≡ Some uri
  pub no_view : image.buffer_view ≡ None
  pub meant : IsMeant (Held there) (uri_of uri) (Ok p.bytes.items)
  pub type : option_map string_bytes image.mime_type ≡ option_map string_bytes x.mime_type

-- so is each image that has a file, where a source has this one too
abbrev pub ShowsImages : Type 0
ShowsImages =
    (required : Required) (names : Names) (path stem : List ℕ) (keep : Keep) (drop : Bool)
    (set : Pieces)
    (is : IsSplit required names path stem keep drop set) (reading : Required)
    → ReadAlike required reading → (there : Holds) (s : Root) (others : List (List ℕ))
    → IsRead reading (Held there) (string_bytes set.json) s others
    → (i : ℕ) (p : Part) → slice_get set.images.items i ≡ Some (Some p) → HoldsPart there p
    → (x : Image) → slice_get is.root_.images.items i ≡ Some x → IsShown there p x s i

-- each image that names a view has a file of the bytes of its view, unless images are kept
abbrev pub HasFiles : Type 0
HasFiles =
    (required : Required) (names : Names) (path stem : List ℕ) (keep : Keep) (drop : Bool)
    (set : Pieces)
    (is : IsSplit required names path stem keep drop set) → keep ≢ Every
    → (i : ℕ) (x : Image) → slice_get is.root_.images.items i ≡ Some x
    → (bytes : List ℕ) → IsOfView is.whole is.root_ x bytes
    → (p : Part) × (slice_get set.images.items i ≡ Some (Some p)) × (p.bytes.items ≡ bytes)

-- image i has a file, and this URI leads to the bytes of it
pub record HasLinkedFile (names : Names) (uri : List ℕ) (set : Pieces) (i : ℕ) : Type 0 where
  pub part : Part
  pub there : slice_get set.images.items i ≡ Some (Some part)
  pub meant : IsMeant names (uri_of uri) (Ok part.bytes.items)

-- so has each image with a URI that names no view, where no image may stay
abbrev pub HasLinkedFiles : Type 0
HasLinkedFiles =
    (required : Required) (names : Names) (path stem : List ℕ) (keep : Keep) (drop : Bool)
    (set : Pieces)
    (is : IsSplit required names path stem keep drop set) → keep ≡ Nothing
    → (i : ℕ) (x : Image) → slice_get is.root_.images.items i ≡ Some x
    → (uri : List ℕ) → option_map string_bytes x.uri ≡ Some uri → x.buffer_view ≡ None
    → HasLinkedFile names uri set i

-- ---- names

abbrev pub names_of_buffers : List Part → List (List ℕ)
names_of_buffers ps = map (λ p. string_bytes p.name) ps

abbrev pub names_of_images : List (Option Part) → List (List ℕ)
names_of_images [] = []
names_of_images (None ∷ ps) = names_of_images ps
names_of_images (Some p ∷ ps) = string_bytes p.name ∷ names_of_images ps

-- the names of the text and of all files beside it
abbrev pub file_names : List ℕ → Pieces → List (List ℕ)
file_names stem set =
    (stem ++ codes ".gltf")
    ∷ (names_of_buffers set.buffers.items ++ names_of_images set.images.items)

-- none of these is x
abbrev pub IsNoneOf : List ℕ → List (List ℕ) → Type 0
IsNoneOf x [] = ⊤
IsNoneOf x (y ∷ ys) = (x ≢ y) × IsNoneOf x ys

-- no two of these are the same
abbrev pub AreApart : List (List ℕ) → Type 0
AreApart [] = ⊤
AreApart (x ∷ xs) = IsNoneOf x xs × AreApart xs

-- no two files of a set have the same name, and none has that of the text
abbrev pub HasNamesApart : Type 0
HasNamesApart =
    (required : Required) (names : Names) (path stem : List ℕ) (keep : Keep) (drop : Bool)
    (set : Pieces)
    → IsSplit required names path stem keep drop set → AreApart (file_names stem set)
