-- What a source of named bytes answers for a file, where some of the extensions that it requires
-- pass (glTF 2.0, sections 2.8, 3.6.1 and 3.12).
use Rattle.std.specs.Prelude.{◌≡◌, ◌⊎◌, ℕ, List, ◌∷◌, Option}
use Rattle.gltf_glb.specs.declared.error.Error.{Error}
use Rattle.gltf_glb.specs.declared.error.Error.TheVariants.{Io, Memory}
use Rattle.gltf_json.specs.declared.root.Root.{Root}
use Rattle.gltf_names.specs.Named.{Named, File}
use Rattle.gltf_buffers.specs.Buffers.{sources_of, IsAskedFor}
use Rattle.gltf_buffers.specs.Errors.{IsUnanswered}
use Rattle.gltf_buffers.specs.Names.{Names, Gives}
use Rattle.gltf_required.specs.Import.{IsValidAs, RefusesImportAs}
use Rattle.gltf_required.specs.declared.required.Required.{Required}

-- a buffer of the document that the bytes are leads to this name, and no buffer before it has a
-- fault
pub record IsAskedAs (required : Required) (names : Names) (bytes : List ℕ) (name : Named)
    : Type 0 where
  pub root : Root
  pub blob : Option (List ℕ)
  pub valid : IsValidAs required bytes root blob
  pub asked : IsAskedFor names (sources_of root) blob name

-- the source failed at such a name, and noted it; or one of the five layers does not hold, and
-- nothing was noted
abbrev pub FailsOrRefusesAs : Required → Names → List ℕ → List Named → List Named → Error → Type 0
FailsOrRefusesAs required names bytes old new (Io cause) =
    (name : Named) × IsAskedAs required names bytes name × (new ≡ name ∷ old)
FailsOrRefusesAs required names bytes old new Memory = new ≡ old
FailsOrRefusesAs required names bytes old new e =
    (new ≡ old) × RefusesImportAs required names bytes e

-- the source gives a file at the path, which is refused, or a name that a buffer leads to failed
pub record FailsBehindAs (required : Required) (names : Names) (path : List ℕ)
    (old new : List Named) (e : Error) : Type 0 where
  pub bytes : List ℕ
  pub gives : Gives names (File path) bytes
  pub told : FailsOrRefusesAs required names bytes old new e

-- the source gave nothing at the path, or this
abbrev pub RefusesFileAs : Required → Names → List ℕ → List Named → List Named → Error → Type 0
RefusesFileAs required names path old new e =
    IsUnanswered names (File path) old new e ⊎ FailsBehindAs required names path old new e
