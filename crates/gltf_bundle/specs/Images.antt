-- Which images are taken in, and why one is not (glTF 2.0, sections 2.8 and 3.8.3).
use Rattle.std.specs.Prelude.{◌≡◌, ◌≢◌, ◌⊎◌, ℕ, zero, suc, List, [], ◌∷◌, ◌++◌, length, Option}
use Rattle.std.specs.Prelude.{Some, None, option_and_then, string_bytes, Ok, Err, codes}
use Rattle.std.specs.declared.alloc.Global.{Global}
use Rattle.std.specs.declared.string.String.{String}
use Rattle.serde_json.specs.Data.{Data, Items, no_items, item}
use Rattle.serde_json.specs.Find.{get, get_item, as_str}
use Rattle.gltf_edit.specs.Embedded.{items_at, own_uri}
use Rattle.gltf_edit.specs.declared.picture.Picture.{Picture}
use Rattle.gltf_glb.specs.declared.error.Error.{Error}
use Rattle.gltf_glb.specs.declared.error.Error.TheVariants.{Memory}
use Rattle.gltf_names.specs.Named.{Named}
use Rattle.gltf_buffers.specs.Buffers.{IsMeant}
use Rattle.gltf_buffers.specs.Errors.{FailsOrNames}
use Rattle.gltf_buffers.specs.Names.{Names, CanBeAsked, name_of}
use Rattle.gltf_buffers.specs.Uri.{uri_of}
use Rattle.gltf_bundle.specs.Media.{media_of}
use Rattle.gltf_bundle.specs.declared.error.BundleError.{BundleError}
use Rattle.gltf_bundle.specs.declared.error.BundleError.TheVariants as bundle
use Rattle.gltf_bundle.specs.declared.options.Keep.{Keep}
use Rattle.gltf_bundle.specs.declared.options.Keep.TheVariants.{Nothing, Missing, Every}

-- a member that is a text
abbrev pub text_at : List ℕ → Data → Option (List ℕ)
text_at name d = option_and_then as_str (get name d)

-- ---- what is taken in

-- an image that is read by a URI, and the picture that it becomes: it has the bytes that its URI
-- leads to, as that of a buffer does, and a media type
pub record IsTaken (names : Names) (d : Data) (p : Picture) (bytes : List ℕ) : Type 0 where
  pub uri : List ℕ
  pub there : own_uri d ≡ Some uri
  pub meant : IsMeant names (uri_of uri) (Ok bytes)
  pub long : p.length ≡ length bytes
  pub media : media_of uri (text_at (codes "mimeType") d) bytes ≡ Some (string_bytes p.media)

-- ---- what stays

-- the error says why a URI leads to no bytes, as that of a buffer does
abbrev pub IsUnmeant : Names → List Named → List Named → List ℕ → Error → Type 0
IsUnmeant names old new uri e =
    FailsOrNames (λ f. IsMeant names (uri_of uri) (Err f))
    (λ name. CanBeAsked names × (name_of (uri_of uri) ≡ Some name)) old new e

-- an image is read by such a URI
pub record IsUnread (names : Names) (old new : List Named) (e : Error) (d : Data) : Type 0 where
  pub uri : List ℕ
  pub there : own_uri d ≡ Some uri
  pub fails : IsUnmeant names old new uri e

-- and this is the error of it, with its URI
pub record IsRefused (names : Names) (old new : List Named) (u : String Global) (e : Error)
    (d : Data) : Type 0 where
  pub not_memory : e ≢ Memory
  pub unread : IsUnread names old new e d
  pub uri : string_bytes u ≡ unread.uri

-- an image is read by a URI, which leads to bytes, and has no media type
pub record HasNoMedia (names : Names) (old new : List Named) (d : Data) : Type 0 where
  pub uri : List ℕ
  pub there : own_uri d ≡ Some uri
  pub bytes : List ℕ
  pub meant : IsMeant names (uri_of uri) (Ok bytes)
  pub none : media_of uri (text_at (codes "mimeType") d) bytes ≡ None
  pub fine : new ≡ old

-- an image is not read by a URI: it has none, or names a view
pub record HasNoUri (d : Data) (lost : List Named) : Type 0 where
  pub none : own_uri d ≡ None
  pub fine : lost ≡ []

-- an image is read by a URI, which leads to no bytes, or to bytes of no media type; the source
-- failed at these names
abbrev pub IsMissing : Names → Data → List Named → Type 0
IsMissing names d lost =
    ((e : Error) × (e ≢ Memory) × IsUnread names [] lost e d) ⊎ HasNoMedia names [] lost d

-- an image is not touched
abbrev pub Stays : Keep → Names → Data → List Named → Type 0
Stays Missing names d lost = HasNoUri d lost ⊎ IsMissing names d lost
Stays keep names d lost = HasNoUri d lost

-- ---- what is taken in, of images that are not all kept

-- an image becomes a picture of the bytes of its URI, or stays; the source failed at these names,
-- the last one first
abbrev pub Takes : Keep → Names → Data → Option Picture → List (List ℕ) → List Named → Type 0
Takes keep names d None taken lost = Stays keep names d lost × (taken ≡ [])
Takes keep names d (Some p) taken lost =
    (bytes : List ℕ) × IsTaken names d p bytes × (taken ≡ bytes ∷ []) × (lost ≡ [])

-- so does each of some, in order
abbrev pub AllTaken : Keep → Names → Items → List (Option Picture) → List (List ℕ) → List Named
    → Type 0
AllTaken keep names no_items [] taken lost = (taken ≡ []) × (lost ≡ [])
AllTaken keep names no_items (p ∷ ps) taken lost = ⊥
AllTaken keep names (item d ds) [] taken lost = ⊥
AllTaken keep names (item d ds) (p ∷ ps) taken lost =
    (one : List (List ℕ)) × (more : List (List ℕ)) × (first : List Named) × (rest : List Named)
    × Takes keep names d p one first × AllTaken keep names ds ps more rest
    × (taken ≡ one ++ more) × (lost ≡ rest ++ first)

-- the images of a document
abbrev pub AreTaken : Keep → Names → Data → List (Option Picture) → List (List ℕ) → List Named
    → Type 0
AreTaken Every names value ps taken lost = (ps ≡ []) × (taken ≡ []) × (lost ≡ [])
AreTaken keep names value ps taken lost =
    AllTaken keep names (items_at (codes "images") value) ps taken lost

-- ---- what an error says of it

-- what an error says of the URI of the image at an index
abbrev pub RefusesRead : Names → ℕ → List Named → List Named → List ℕ → BundleError → Type 0
RefusesRead names i old new uri (bundle.Image j u e) =
    (j ≡ i) × (string_bytes u ≡ uri) × (e ≢ Memory) × IsUnmeant names old new uri e
RefusesRead names i old new uri (bundle.Import e) = (e ≡ Memory) × (new ≡ old)
RefusesRead names i old new uri _ = ⊥

-- what it says of that image
abbrev pub RefusesImage : Names → ℕ → List Named → List Named → Data → BundleError → Type 0
RefusesImage names i old new d (bundle.Image j u e) = (j ≡ i) × IsRefused names old new u e d
RefusesImage names i old new d (bundle.ImageType j) = (j ≡ i) × HasNoMedia names old new d
RefusesImage names i old new d (bundle.Import e) = (e ≡ Memory) × (new ≡ old)
RefusesImage names i old new d _ = ⊥

-- and where it may stay, it is no error
abbrev pub RefusesKept : Keep → Names → ℕ → List Named → List Named → Data → BundleError → Type 0
RefusesKept keep names i old new d (bundle.Import e) = (e ≡ Memory) × (new ≡ old)
RefusesKept keep names i old new d e = (keep ≡ Nothing) × RefusesImage names i old new d e

-- the first n
abbrev pub front : ℕ → Items → Items
front zero ds = no_items
front (suc n) no_items = no_items
front (suc n) (item d ds) = item d (front n ds)

-- P holds of the image at this index, and those before it are taken in
pub record IsFirstNotTaken (names : Names) (ds : Items) (i : ℕ) (P : Data → Type 0) : Type 0 where
  pub pictures : List (Option Picture)
  pub taken : List (List ℕ)
  pub before : AllTaken Nothing names (front i ds) pictures taken []
  pub image : Data
  pub there : get_item i ds ≡ Some image
  pub wrong : P image

-- the source failed since at names of the first of these images, where those stay that are missing
pub record FailedAtFirst (names : Names) (ds : Items) (old new : List Named) : Type 0 where
  pub count : ℕ
  pub pictures : List (Option Picture)
  pub taken : List (List ℕ)
  pub lost : List Named
  pub before : AllTaken Missing names (front count ds) pictures taken lost
  pub after : new ≡ lost ++ old

-- it failed at these alone, and at none where no image may stay that is missing
abbrev pub FailedAtMissing : Keep → Names → Items → List Named → List Named → Type 0
FailedAtMissing Missing names ds old new = FailedAtFirst names ds old new
FailedAtMissing keep names ds old new = new ≡ old

-- what an error says of images: where those stay that are missing, none of them is an error
abbrev pub RefusesImages : Keep → Names → Items → List Named → List Named → BundleError → Type 0
RefusesImages keep names ds old new (bundle.Image i u e) =
    (keep ≡ Nothing) × IsFirstNotTaken names ds i (IsRefused names old new u e)
RefusesImages keep names ds old new (bundle.ImageType i) =
    (keep ≡ Nothing) × IsFirstNotTaken names ds i (HasNoMedia names old new)
RefusesImages keep names ds old new (bundle.Import e) =
    (e ≡ Memory) × FailedAtMissing keep names ds old new
RefusesImages keep names ds old new _ = ⊥
