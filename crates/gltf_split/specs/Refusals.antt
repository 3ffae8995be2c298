-- What the errors of a split say.
use Rattle.std.specs.Prelude.{◌≡◌, ◌≢◌, ◌⊎◌, ℕ, List, Bool, string_bytes, codes}
use Rattle.serde_json.specs.Data.{Data}
use Rattle.gltf_json.specs.declared.root.Root.{Root}
use Rattle.gltf_edit.specs.Embedded.{items_at}
use Rattle.gltf_glb.specs.declared.error.Error.{Error}
use Rattle.gltf_glb.specs.declared.error.Error.TheVariants.{Memory}
use Rattle.gltf_names.specs.Named.{Named}
use Rattle.gltf_buffers.specs.Names.{Names}
use Rattle.gltf_required.specs.Files.{RefusesFileAs}
use Rattle.gltf_required.specs.Import.{RefusesDocumentAs}
use Rattle.gltf_required.specs.declared.required.Required.{Required}
use Rattle.gltf_bundle.specs.Bundle.{IsSource}
use Rattle.gltf_bundle.specs.declared.error.BundleError.{BundleError}
use Rattle.gltf_bundle.specs.declared.options.Keep.{Keep}
use Rattle.gltf_bundle.specs.declared.options.Keep.TheVariants.{Missing}
use Rattle.gltf_bundle.specs.Refusals.{LacksMemoryOr}
use Rattle.gltf_bundle.specs.declared.error.BundleError.TheVariants as bundle
use Rattle.gltf_split.specs.Images.{RefusesImages, FailedAtFirst}
use Rattle.gltf_split.specs.Splits.{IsSplit, IsLaidOut}
use Rattle.gltf_split.specs.declared.splitting.Pieces.{Pieces}

-- the file is accepted, and its images are refused so
pub record HasBadImage (required : Required) (names : Names) (path : List ℕ) (keep : Keep)
    (old new : List Named) (e : BundleError) : Type 0 where
  pub value : Data
  pub root_ : Root
  pub buffers : List (List ℕ)
  pub source : IsSource required names path value root_ buffers
  pub told : RefusesImages keep names buffers value (items_at (codes "images") value) old new e

-- the text of the set, in the layout that is asked for, is refused
pub record HasBadText (required : Required) (names : Names) (path stem : List ℕ) (keep : Keep)
    (drop pretty : Bool) (e : Error) : Type 0 where
  pub set : Pieces
  pub is : IsSplit required names path stem keep drop set
  pub laid : IsLaidOut pretty (string_bytes set.json)
  pub not_memory : e ≢ Memory
  pub fault : RefusesDocumentAs required (string_bytes set.json) e

-- the file is accepted, and the source failed since at names of its first images, where those stay
-- that are missing
pub record HasFailedAtFirst (required : Required) (names : Names) (path : List ℕ)
    (old new : List Named) : Type 0 where
  pub value : Data
  pub root_ : Root
  pub buffers : List (List ℕ)
  pub source : IsSource required names path value root_ buffers
  pub failed : FailedAtFirst names buffers value (items_at (codes "images") value) old new

-- the source did not fail; or, where images stay that are missing, at names of some of these alone
abbrev pub HasFailedAtMissing : Required → Names → List ℕ → Keep → List Named → List Named → Type 0
HasFailedAtMissing required names path Missing old new =
    (new ≡ old) ⊎ HasFailedAtFirst required names path old new
HasFailedAtMissing required names path keep old new = new ≡ old

-- the error is that of the import, or names what does not hold; or out of memory, and then the
-- source failed at no name but those of images that are missing and stay
abbrev pub RefusesSplit : Required → Names → List ℕ → List ℕ → Keep → Bool → Bool → List Named
    → List Named → BundleError → Type 0
RefusesSplit required names path stem keep drop pretty old new (bundle.Import e) =
    LacksMemoryOr (HasFailedAtMissing required names path keep old new)
    (RefusesFileAs required names path old new) e
RefusesSplit required names path stem keep drop pretty old new (bundle.View v) =
    HasBadImage required names path keep old new (bundle.View v)
RefusesSplit required names path stem keep drop pretty old new (bundle.Image i u e) =
    HasBadImage required names path keep old new (bundle.Image i u e)
RefusesSplit required names path stem keep drop pretty old new (bundle.Answer e) =
    HasBadText required names path stem keep drop pretty e
RefusesSplit required names path stem keep drop pretty old new _ = ⊥
