-- Which bytes a file is bundled to (glTF 2.0, sections 3.6.1 and 4.4).
use Rattle.std.specs.Prelude.{◌≡◌, ◌<◌, ◌≤◌, ◌^◌, ℕ, List, [], ◌∷◌, ◌++◌, length, Option, Some}
use Rattle.std.specs.Prelude.{None, false}
use Rattle.serde_json.specs.Data.{Data, depth}
use Rattle.serde_json.specs.Read.{max_depth}
use Rattle.serde_json.specs.View.{view}
use Rattle.serde_json.specs.Written.{has_float, compact_text, IsInOrder}
use Rattle.json.specs.Lex.{tokens}
use Rattle.json.specs.Print.{print}
use Rattle.gltf_edit.specs.Bundled.{ArePlaced}
use Rattle.gltf_edit.specs.Embedded.{embedded}
use Rattle.gltf_edit.specs.Joined.{joined, spans_from}
use Rattle.gltf_edit.specs.declared.picture.Picture.{Picture}
use Rattle.gltf_moved.specs.Laws.{moved_value}
use Rattle.gltf_json.specs.Documents.{root}
use Rattle.gltf_json.specs.Reading.{Reads}
use Rattle.gltf_json.specs.declared.root.Root.{Root}
use Rattle.gltf_validation.specs.Documents.{Faults}
use Rattle.gltf_glb.specs.Written.{container_bytes, total_of}
use Rattle.gltf_names.specs.Named.{Named, File}
use Rattle.gltf_buffers.specs.Buffers.{sources_of, AreBytes}
use Rattle.gltf_buffers.specs.Names.{Names, Nowhere, Gives}
use Rattle.gltf.specs.Import.{AreParts, Accepts}
use Rattle.gltf_required.specs.Import.{AcceptsAs}
use Rattle.gltf_required.specs.Required.{IsLeft, as_read}
use Rattle.gltf_required.specs.declared.required.Required.{Required}
use Rattle.gltf.specs.Shown.{bytes_of_each}
use Rattle.gltf_bundle.specs.declared.joining.Places.{Places}
use Rattle.gltf_bundle.specs.declared.loading.Loaded.{Loaded}
use Rattle.gltf_bundle.specs.declared.loading.Gathered.{Gathered}
use Rattle.gltf_bundle.specs.declared.options.Keep.{Keep}
use Rattle.gltf_bundle.specs.Images.{AreTaken}

-- the value of the JSON text of a file
pub record IsValueOf (bytes : List ℕ) (value : Data) : Type 0 where
  pub text : List ℕ
  pub blob : Option (List ℕ)
  pub parts : AreParts bytes text blob
  pub reads : Reads text value
  pub nests : depth value ≤ max_depth

-- the file at the path is accepted, by its JSON value, the records of this value as it is read and
-- the bytes of its buffers, with the rules of what is left of it without the required names that
-- pass
pub record IsSource (required : Required) (names : Names) (path : List ℕ) (value : Data) (r : Root)
    (buffers : List (List ℕ)) : Type 0 where
  pub bytes : List ℕ
  pub gives : Gives names (File path) bytes
  pub text : List ℕ
  pub blob : Option (List ℕ)
  pub parts : AreParts bytes text blob
  pub reads : Reads text value
  pub nests : depth value ≤ max_depth
  pub records : root.is (as_read required value) r
  pub left : Root
  pub is_left : IsLeft required r left
  pub rules : Faults left ≡ []
  pub data_ : AreBytes names (sources_of r) blob (length (sources_of r)) buffers

-- that is what was loaded
abbrev pub IsLoaded : Required → Names → List ℕ → Loaded → Type 0
IsLoaded required names path loaded =
    (r : Root)
    × IsSource required names path (view loaded.value) r (bytes_of_each loaded.buffers.items)

-- and its images are taken in, but for those that stay as they are; the source failed at these
-- names
pub record IsGathered (required : Required) (names : Names) (path : List ℕ) (keep : Keep)
    (value : Data) (r : Root) (buffers images : List (List ℕ)) (pictures : List (Option Picture))
    (lost : List Named) : Type 0 where
  pub source : IsSource required names path value r buffers
  pub taken : AreTaken keep names value pictures images lost

-- that is what was gathered
abbrev pub AreGathered : Required → Names → List ℕ → Keep → List Named → List Named → Gathered
    → Type 0
AreGathered required names path keep old new all =
    (r : Root) × (buffers : List (List ℕ)) × (images : List (List ℕ)) × (lost : List Named)
    × IsGathered required names path keep (view all.value) r buffers images all.pictures.items lost
    × (bytes_of_each all.buffers.items ≡ buffers ++ images) × (new ≡ lost ++ old)

-- the binary buffer of a container: there is none without buffers
abbrev pub blob_of : List (List ℕ) → Option (List ℕ)
blob_of [] = None
blob_of (bytes ∷ more) = Some (joined (bytes ∷ more))

-- where the bytes of buffers stand in one, and how many all are
pub record ArePlaces (buffers : List (List ℕ)) (all : Places) : Type 0 where
  pub spans : all.spans.items ≡ spans_from 0 buffers
  pub total : all.total ≡ length (joined buffers)
  pub fits : length (joined buffers) < 2 ^ 32

-- a text of a value, in its order, with nothing between its tokens; where the value has no float,
-- there is one
pub record IsCompact (value : Data) (json : List ℕ) : Type 0 where
  pub text : has_float value ≡ false → json ≡ compact_text value
  pub layout : json ≡ print (tokens json)
  pub order : IsInOrder json value

-- the canonical container of such a text of a value and of a blob
pub record IsContainerOf (value : Data) (blob : Option (List ℕ)) (answer : List ℕ)
    : Type 0 where
  pub json : List ℕ
  pub reads : depth value ≤ max_depth → Reads json value
  pub compact : IsCompact value json
  pub fits : total_of json blob < 2 ^ 32
  pub written : answer ≡ container_bytes json blob

-- the answer is the canonical container of the edited value of the file at the path, and of the
-- bytes of its buffers and of the images that are taken in as one, where each view lies in its
-- buffer
pub record IsBundle (required : Required) (names : Names) (path : List ℕ) (keep : Keep)
    (answer : List ℕ) : Type 0 where
  pub value : Data
  pub root_ : Root
  pub buffers : List (List ℕ)
  pub images : List (List ℕ)
  pub pictures : List (Option Picture)
  pub lost : List Named
  pub gathered : IsGathered required names path keep value root_ buffers images pictures lost
  pub placed : ArePlaced (spans_from 0 (buffers ++ images)) (embedded pictures value)
  pub short : length (joined (buffers ++ images)) < 2 ^ 32
  pub json : List ℕ
  pub reads : Reads json (moved_value (buffers ++ images) pictures value)
  pub compact : IsCompact (moved_value (buffers ++ images) pictures value) json
  pub fits : total_of json (blob_of (buffers ++ images)) < 2 ^ 32
  pub written : answer ≡ container_bytes json (blob_of (buffers ++ images))

-- and the source failed at the names of images that stay as they are alone
abbrev pub Bundles : Required → Names → List ℕ → Keep → List Named → List Named → List ℕ → Type 0
Bundles required names path keep old new answer =
    (is : IsBundle required names path keep answer) × (new ≡ is.lost ++ old)

-- the bytes are accepted where no name can be asked for
abbrev pub IsAccepted : List ℕ → Type 0
IsAccepted bytes = (r : Root) × (buffers : List (List ℕ)) × Accepts bytes r buffers

-- the same where some of the extensions that they require pass
abbrev pub IsAcceptedAs : Required → List ℕ → Type 0
IsAcceptedAs required bytes =
    (r : Root) × (buffers : List (List ℕ)) × AcceptsAs required Nowhere bytes r buffers
