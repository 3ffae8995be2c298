-- What the errors of a bundle say.
use Rattle.std.specs.Prelude.{◌≡◌, ◌≤◌, ◌^◌, ◌⊎◌, ◌++◌, ℕ, List, length, Option}
use Rattle.std.specs.Prelude.{codes, false}
use Rattle.serde_json.specs.Data.{Data, depth}
use Rattle.serde_json.specs.Read.{max_depth}
use Rattle.gltf_edit.specs.Bundled.{ArePlaced}
use Rattle.gltf_edit.specs.Embedded.{embedded, items_at}
use Rattle.gltf_edit.specs.Faults.{NamesStray}
use Rattle.gltf_edit.specs.Joined.{joined, spans_from}
use Rattle.gltf_edit.specs.declared.fault.Fault.TheVariants.{Outside}
use Rattle.gltf_edit.specs.declared.picture.Picture.{Picture}
use Rattle.gltf_moved.specs.Laws.{moved_value}
use Rattle.gltf_json.specs.Reading.{Reads}
use Rattle.gltf_json.specs.declared.root.Root.{Root}
use Rattle.gltf_glb.specs.Glb.{RefusesToWrite}
use Rattle.gltf_glb.specs.Written.{container_bytes}
use Rattle.gltf_glb.specs.declared.error.Error.{Error}
use Rattle.gltf_glb.specs.declared.error.Error.TheVariants.{Memory}
use Rattle.gltf_names.specs.Named.{Named}
use Rattle.gltf_buffers.specs.Names.{Names, Nowhere}
use Rattle.gltf_required.specs.Files.{RefusesFileAs}
use Rattle.gltf_required.specs.Import.{RefusesImportAs}
use Rattle.gltf_required.specs.declared.required.Required.{Required}
use Rattle.gltf_bundle.specs.Bundle.{IsSource, IsGathered, IsCompact, blob_of}
use Rattle.gltf_bundle.specs.Causes.{is_memory}
use Rattle.gltf_bundle.specs.Images.{RefusesImages, FailedAtFirst}
use Rattle.gltf_bundle.specs.declared.error.BundleError.{BundleError}
use Rattle.gltf_bundle.specs.declared.options.Keep.{Keep}
use Rattle.gltf_bundle.specs.declared.options.Keep.TheVariants.{Missing}
use Rattle.gltf_bundle.specs.declared.error.BundleError.TheVariants as bundle

-- out of memory, and M; or P of the error
abbrev pub LacksMemoryOr : Type 0 → (Error → Type 0) → Error → Type 0
LacksMemoryOr M P Memory = M
LacksMemoryOr M P e = P e

-- the error of the import of the file at the path, or out of memory: then the source did not fail
abbrev pub RefusesSource : Required → Names → List ℕ → List Named → List Named → BundleError
    → Type 0
RefusesSource required names path old new (bundle.Import e) =
    LacksMemoryOr (new ≡ old) (RefusesFileAs required names path old new) e
RefusesSource required names path old new _ = ⊥

-- the file is accepted, and its images are refused so
pub record HasBadImage (required : Required) (names : Names) (path : List ℕ) (keep : Keep)
    (old new : List Named) (e : BundleError) : Type 0 where
  pub value : Data
  pub root_ : Root
  pub buffers : List (List ℕ)
  pub source : IsSource required names path value root_ buffers
  pub told : RefusesImages keep names (items_at (codes "images") value) old new e

-- the file is accepted, and the source failed since at names of its first images, where those stay
-- that are missing
pub record HasFailedAtFirst (required : Required) (names : Names) (path : List ℕ)
    (old new : List Named) : Type 0 where
  pub value : Data
  pub root_ : Root
  pub buffers : List (List ℕ)
  pub source : IsSource required names path value root_ buffers
  pub failed : FailedAtFirst names (items_at (codes "images") value) old new

-- the source did not fail; or, where images stay that are missing, at names of some of these alone
abbrev pub HasFailedAtMissing : Required → Names → List ℕ → Keep → List Named → List Named → Type 0
HasFailedAtMissing required names path Missing old new =
    (new ≡ old) ⊎ HasFailedAtFirst required names path old new
HasFailedAtMissing required names path keep old new = new ≡ old

-- the error of the import, or of the images, or out of memory: then the source failed at no name but
-- those of images that are missing and stay
abbrev pub RefusesFile : Required → Names → List ℕ → Keep → List Named → List Named → BundleError
    → Type 0
RefusesFile required names path keep old new (bundle.Import e) =
    LacksMemoryOr (HasFailedAtMissing required names path keep old new)
    (RefusesFileAs required names path old new) e
RefusesFile required names path keep old new (bundle.Image i u e) =
    HasBadImage required names path keep old new (bundle.Image i u e)
RefusesFile required names path keep old new (bundle.ImageType i) =
    HasBadImage required names path keep old new (bundle.ImageType i)
RefusesFile required names path keep old new _ = ⊥

-- the file is accepted, its images are taken in, and view i is the first that does not lie in its
-- buffer
pub record HasStray (required : Required) (names : Names) (path : List ℕ) (keep : Keep) (i : ℕ)
    : Type 0 where
  pub value : Data
  pub root_ : Root
  pub buffers : List (List ℕ)
  pub images : List (List ℕ)
  pub pictures : List (Option Picture)
  pub lost : List Named
  pub gathered : IsGathered required names path keep value root_ buffers images pictures lost
  pub stray : NamesStray (spans_from 0 (buffers ++ images)) (embedded pictures value) (Outside i)

-- the file is accepted, its images are taken in, and all is too long for one buffer
pub record HasTooMuch (required : Required) (names : Names) (path : List ℕ) (keep : Keep)
    : Type 0 where
  pub value : Data
  pub root_ : Root
  pub buffers : List (List ℕ)
  pub images : List (List ℕ)
  pub pictures : List (Option Picture)
  pub lost : List Named
  pub gathered : IsGathered required names path keep value root_ buffers images pictures lost
  pub long : 2 ^ 32 ≤ length (joined (buffers ++ images))

-- the file is accepted, its images are taken in, each view lies in its buffer, and the container
-- of a compact text of the edited value would be too long, or is refused with this error
pub record HasNoContainer (required : Required) (names : Names) (path : List ℕ) (keep : Keep)
    (e : Error) : Type 0 where
  pub value : Data
  pub root_ : Root
  pub buffers : List (List ℕ)
  pub images : List (List ℕ)
  pub pictures : List (Option Picture)
  pub lost : List Named
  pub gathered : IsGathered required names path keep value root_ buffers images pictures lost
  pub placed : ArePlaced (spans_from 0 (buffers ++ images)) (embedded pictures value)
  pub json : List ℕ
  pub reads : Reads json (moved_value (buffers ++ images) pictures value)
  pub compact : IsCompact (moved_value (buffers ++ images) pictures value) json
  pub not_memory : is_memory e ≡ false
  pub fault : RefusesToWrite json (blob_of (buffers ++ images)) e
      ⊎ RefusesImportAs required Nowhere (container_bytes json (blob_of (buffers ++ images))) e

-- the error is that of the import, or out of memory, as before, or names the one other condition
-- that does not hold
abbrev pub RefusesBundle : Required → Names → List ℕ → Keep → List Named → List Named → BundleError
    → Type 0
RefusesBundle required names path keep old new (bundle.Import e) =
    LacksMemoryOr (HasFailedAtMissing required names path keep old new)
    (RefusesFileAs required names path old new) e
RefusesBundle required names path keep old new (bundle.View i) = HasStray required names path keep i
RefusesBundle required names path keep old new (bundle.Image i u e) =
    HasBadImage required names path keep old new (bundle.Image i u e)
RefusesBundle required names path keep old new (bundle.ImageType i) =
    HasBadImage required names path keep old new (bundle.ImageType i)
RefusesBundle required names path keep old new bundle.TooLong = HasTooMuch required names path keep
RefusesBundle required names path keep old new (bundle.Answer e) =
    HasNoContainer required names path keep e

-- out of memory, or the container of a compact text of the value and of the blob would be too long
abbrev pub RefusesContainerOf : Data → Option (List ℕ) → BundleError → Type 0
RefusesContainerOf value blob (bundle.Import e) = e ≡ Memory
RefusesContainerOf value blob (bundle.Answer e) =
    (json : List ℕ) × (depth value ≤ max_depth → Reads json value) × IsCompact value json
    × (is_memory e ≡ false) × RefusesToWrite json blob e
RefusesContainerOf value blob _ = ⊥
