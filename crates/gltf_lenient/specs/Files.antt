-- What a source of named bytes answers for a file that is mended (glTF 2.0, sections 2.8 and
-- 3.6.1).
use Rattle.std.specs.Prelude.{◌≡◌, ◌⊎◌, ℕ, List, ◌∷◌, Option}
use Rattle.gltf_glb.specs.declared.error.Error.{Error}
use Rattle.gltf_glb.specs.declared.error.Error.TheVariants.{Io, Memory}
use Rattle.gltf_json.specs.Documents.{root}
use Rattle.gltf_json.specs.declared.root.Root.{Root}
use Rattle.gltf_names.specs.Named.{Named, File}
use Rattle.gltf_buffers.specs.Buffers.{sources_of, IsAskedFor}
use Rattle.gltf_buffers.specs.Errors.{IsUnanswered}
use Rattle.gltf_buffers.specs.Names.{Names, Gives}
use Rattle.gltf_lenient.specs.Import.{IsValidMended, AcceptsMended, RefusesMendedImport}
use Rattle.gltf_lenient.specs.declared.options.Options.{Options}

-- a buffer of the document leads to this name, and no buffer before it has a fault
pub record IsAskedMended (options : Options) (names : Names) (bytes : List ℕ) (name : Named)
    : Type 0 where
  pub root : Root
  pub taken : List (List ℕ)
  pub blob : Option (List ℕ)
  pub valid : IsValidMended options bytes root taken blob
  pub asked : IsAskedFor names (sources_of root) blob name

-- the source failed at such a name, and noted it; or one of the five layers does not hold, and
-- nothing was noted
abbrev pub FailsOrRefusesMended : Options → Names → List ℕ → List Named → List Named → Error
    → Type 0
FailsOrRefusesMended options names bytes old new (Io cause) =
    (name : Named) × IsAskedMended options names bytes name × (new ≡ name ∷ old)
FailsOrRefusesMended options names bytes old new Memory = new ≡ old
FailsOrRefusesMended options names bytes old new e =
    (new ≡ old) × RefusesMendedImport options names bytes e

-- the source gives this file at the path, and all five layers hold of it
pub record AcceptsMendedFile (options : Options) (names : Names) (path : List ℕ) (r : Root)
    (taken buffers : List (List ℕ)) : Type 0 where
  pub bytes : List ℕ
  pub gives : Gives names (File path) bytes
  pub accepted : AcceptsMended options names bytes r taken buffers

-- the source gives a file at the path, which is refused, or a name that a buffer leads to failed
pub record FailsMendedAfterPath (options : Options) (names : Names) (path : List ℕ)
    (old new : List Named) (e : Error) : Type 0 where
  pub bytes : List ℕ
  pub gives : Gives names (File path) bytes
  pub fails : FailsOrRefusesMended options names bytes old new e

-- the source gave nothing at the path, or this
abbrev pub RefusesMendedFileAt : Options → Names → List ℕ → List Named → List Named → Error
    → Type 0
RefusesMendedFileAt options names path old new e =
    IsUnanswered names (File path) old new e
    ⊎ FailsMendedAfterPath options names path old new e

-- of no other root can the file at the path be the mended document, but for how it lies in memory,
-- with no other names left out and no other bytes of the buffers
abbrev pub IsOnlyMendedFile : Options → Names → List ℕ → Root → List (List ℕ) → List (List ℕ)
    → Type 0
IsOnlyMendedFile options names path r taken buffers =
    (s : Root) (others data_ : List (List ℕ)) → AcceptsMendedFile options names path s others data_
    → (root.content s ≡ root.content r) × (others ≡ taken) × (data_ ≡ buffers)

abbrev pub IsNotAcceptedMendedFile : Options → Names → List ℕ → Type 0
IsNotAcceptedMendedFile options names path =
    (s : Root) (taken buffers : List (List ℕ))
    → AcceptsMendedFile options names path s taken buffers → ⊥
