-- The files of images, and why there are none (glTF 2.0, sections 2.8 and 3.8.3).
use Rattle.std.specs.Prelude.{◌≡◌, ◌≢◌, ◌⊎◌, ℕ, ◌+◌, List, [], ◌∷◌, ◌++◌, Option, Some, None}
use Rattle.std.specs.Prelude.{MatchOption, string_bytes, Ok, codes}
use Rattle.serde_json.specs.Data.{Data, Items, no_items, item}
use Rattle.serde_json.specs.Find.{get_item}
use Rattle.gltf_edit.specs.Bundled.{size_at}
use Rattle.gltf_edit.specs.Embedded.{items_at}
use Rattle.gltf_detach.specs.Naming.{image_name, ending_of}
use Rattle.gltf_detach.specs.declared.part.Part.{Part}
use Rattle.gltf_glb.specs.declared.error.Error.{Error}
use Rattle.gltf_glb.specs.declared.error.Error.TheVariants.{Memory}
use Rattle.gltf_names.specs.Named.{Named}
use Rattle.gltf_buffers.specs.Buffers.{IsMeant}
use Rattle.gltf_buffers.specs.Names.{Names}
use Rattle.gltf_buffers.specs.Uri.{uri_of}
use Rattle.gltf_bundle.specs.Images.{text_at, IsUnread, IsRefused, front}
use Rattle.gltf_bundle.specs.Media.{begun_media}
use Rattle.gltf_bundle.specs.declared.options.Keep.{Keep}
use Rattle.gltf_bundle.specs.declared.options.Keep.TheVariants.{Nothing, Missing, Every}
use Rattle.gltf_bundle.specs.declared.error.BundleError.{BundleError}
use Rattle.gltf_bundle.specs.declared.error.BundleError.TheVariants as bundle
use Rattle.gltf_split.specs.Views.{view_bytes}

-- ---- its bytes

-- a URI leads to these bytes, as that of a buffer does
pub record IsLinked (names : Names) (d : Data) (bytes : List ℕ) : Type 0 where
  pub uri : List ℕ
  pub there : text_at (codes "uri") d ≡ Some uri
  pub meant : IsMeant names (uri_of uri) (Ok bytes)

-- an image has the bytes of the view that it names; where it names none, those of its URI
abbrev pub HasBytes : Names → List (List ℕ) → Data → Data → List ℕ → Type 0
HasBytes names buffers document d bytes =
    MatchOption (size_at (codes "bufferView") d) (IsLinked names d bytes)
    (λ v. view_bytes buffers document v ≡ Some bytes)

-- it has neither
pub record HasNone (d : Data) : Type 0 where
  pub no_view : size_at (codes "bufferView") d ≡ None
  pub no_uri : text_at (codes "uri") d ≡ None

-- these bytes, or none
abbrev pub HasOwn : Names → List (List ℕ) → Data → Data → Option (List ℕ) → Type 0
HasOwn names buffers document d None = HasNone d
HasOwn names buffers document d (Some bytes) = HasBytes names buffers document d bytes

-- ---- its file

-- the name of a file of these bytes, of image i
abbrev pub name_for : List ℕ → ℕ → Data → List ℕ → List ℕ
name_for stem i d bytes =
    image_name stem i (ending_of (begun_media bytes) (text_at (codes "mimeType") d))

pub record IsPart (names : Names) (stem : List ℕ) (buffers : List (List ℕ)) (document : Data)
    (i : ℕ) (d : Data) (p : Part) : Type 0 where
  pub bytes : HasBytes names buffers document d p.bytes.items
  pub name : string_bytes p.name ≡ name_for stem i d p.bytes.items

-- an image has neither bytes nor a URI that leads to none
pub record IsBare (d : Data) (lost : List Named) : Type 0 where
  pub none : HasNone d
  pub fine : lost ≡ []

-- it names no view, and has a URI, which leads to no bytes; the source failed at these names
pub record IsMissing (names : Names) (d : Data) (lost : List Named) : Type 0 where
  pub no_view : size_at (codes "bufferView") d ≡ None
  pub cause : Error
  pub not_memory : cause ≢ Memory
  pub unread : IsUnread names [] lost cause d

-- it is not touched
abbrev pub Stays : Keep → Names → Data → List Named → Type 0
Stays Missing names d lost = IsBare d lost ⊎ IsMissing names d lost
Stays keep names d lost = IsBare d lost

-- an image has a file of its bytes, or stays; the source failed at these names, the last one first
abbrev pub MayBePart : Keep → Names → List ℕ → List (List ℕ) → Data → ℕ → Data → Option Part
    → List Named → Type 0
MayBePart keep names stem buffers document i d None lost = Stays keep names d lost
MayBePart keep names stem buffers document i d (Some p) lost =
    IsPart names stem buffers document i d p × (lost ≡ [])

-- so does each of some, in order, from index i on
abbrev pub AreParts : Keep → Names → List ℕ → List (List ℕ) → Data → ℕ → Items
    → List (Option Part) → List Named → Type 0
AreParts keep names stem buffers document i no_items [] lost = lost ≡ []
AreParts keep names stem buffers document i no_items (p ∷ ps) lost = ⊥
AreParts keep names stem buffers document i (item d ds) [] lost = ⊥
AreParts keep names stem buffers document i (item d ds) (p ∷ ps) lost =
    (first : List Named) × (rest : List Named)
    × MayBePart keep names stem buffers document i d p first
    × AreParts keep names stem buffers document (i + 1) ds ps rest × (lost ≡ rest ++ first)

-- the images of a document
abbrev pub AreImages : Keep → Names → List ℕ → List (List ℕ) → Data → List (Option Part)
    → List Named → Type 0
AreImages Every names stem buffers document ps lost = (ps ≡ []) × (lost ≡ [])
AreImages keep names stem buffers document ps lost =
    AreParts keep names stem buffers document 0 (items_at (codes "images") document) ps lost

-- ---- why there is none

-- an image names this view, which is not there or does not lie in its buffer
pub record HasStrayView (buffers : List (List ℕ)) (document : Data) (v : ℕ) (d : Data) : Type 0
  where
    pub names_it : size_at (codes "bufferView") d ≡ Some v
    pub stray : view_bytes buffers document v ≡ None

-- what an error says of a view
abbrev pub RefusesView : List (List ℕ) → Data → ℕ → BundleError → Type 0
RefusesView buffers document v (bundle.View w) = (w ≡ v) × (view_bytes buffers document v ≡ None)
RefusesView buffers document v (bundle.Import e) = e ≡ Memory
RefusesView buffers document v _ = ⊥

-- what an error says of image i
abbrev pub RefusesOwn : Names → List (List ℕ) → Data → ℕ → List Named → List Named → Data
    → BundleError → Type 0
RefusesOwn names buffers document i old new d (bundle.Image j u e) =
    (j ≡ i) × (size_at (codes "bufferView") d ≡ None) × IsRefused names old new u e d
RefusesOwn names buffers document i old new d (bundle.View v) = HasStrayView buffers document v d
RefusesOwn names buffers document i old new d (bundle.Import e) = (e ≡ Memory) × (new ≡ old)
RefusesOwn names buffers document i old new d _ = ⊥

-- and where it may stay, it is no error that it is missing
abbrev pub RefusesKept : Keep → Names → List (List ℕ) → Data → ℕ → List Named → List Named → Data
    → BundleError → Type 0
RefusesKept keep names buffers document i old new d (bundle.Image j u e) =
    (keep ≢ Missing) × RefusesOwn names buffers document i old new d (bundle.Image j u e)
RefusesKept keep names buffers document i old new d e =
    RefusesOwn names buffers document i old new d e

-- P holds of the item at an index
pub record HoldsAt (ds : Items) (i : ℕ) (P : Data → Type 0) : Type 0 where
  pub image : Data
  pub there : get_item i ds ≡ Some image
  pub wrong : P image

-- P holds of some item
pub record HoldsSomewhere (ds : Items) (P : Data → Type 0) : Type 0 where
  pub index : ℕ
  pub holds : HoldsAt ds index P

-- the source failed since at names of the first of these images, where those stay that are missing,
-- whatever the files of the others are called
pub record FailedAtFirst (names : Names) (buffers : List (List ℕ)) (document : Data) (ds : Items)
    (old new : List Named) : Type 0 where
  pub count : ℕ
  pub stem : List ℕ
  pub parts : List (Option Part)
  pub lost : List Named
  pub before : AreParts Missing names stem buffers document 0 (front count ds) parts lost
  pub after : new ≡ lost ++ old

-- it failed at these alone, and at none where no image may stay that is missing
abbrev pub FailedAtMissing : Keep → Names → List (List ℕ) → Data → Items → List Named → List Named
    → Type 0
FailedAtMissing Missing names buffers document ds old new =
    FailedAtFirst names buffers document ds old new
FailedAtMissing keep names buffers document ds old new = new ≡ old

-- what an error says of images: where those stay that are missing, none of them is an error
abbrev pub RefusesImages : Keep → Names → List (List ℕ) → Data → Items → List Named → List Named
    → BundleError → Type 0
RefusesImages keep names buffers document ds old new (bundle.Image i u e) =
    (keep ≡ Nothing) × HoldsAt ds i (IsRefused names old new u e)
RefusesImages keep names buffers document ds old new (bundle.View v) =
    (keep ≢ Every) × HoldsSomewhere ds (HasStrayView buffers document v)
RefusesImages keep names buffers document ds old new (bundle.Import e) =
    (e ≡ Memory) × FailedAtMissing keep names buffers document ds old new
RefusesImages keep names buffers document ds old new _ = ⊥
