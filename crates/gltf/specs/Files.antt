-- What a source of named bytes answers for a file, which may name others (glTF 2.0, sections 2.8
-- and 3.6.1).
use Rattle.std.specs.Prelude.{◌≡◌, ◌≢◌, ◌<◌, ◌⊎◌, ℕ, List, [], ◌∷◌, ◌++◌, length, get_or}
use Rattle.std.specs.Prelude.{Option, None, Some, ⊤}
use Rattle.gltf_glb.specs.declared.error.Error.{Error}
use Rattle.gltf_glb.specs.declared.error.Error.TheVariants.{Io, Memory}
use Rattle.gltf_json.specs.Documents.{root}
use Rattle.gltf_json.specs.declared.root.Root.{Root}
use Rattle.gltf_names.specs.Named.{Named, File}
use Rattle.gltf_buffers.specs.Buffers.{sources_of, IsAskedFor}
use Rattle.gltf_buffers.specs.Errors.{IsUnanswered}
use Rattle.gltf_buffers.specs.Names.{Names, Nowhere, Anywhere, Gives}
use Rattle.gltf.specs.Import.{IsValidDocument, AcceptsWith, RefusesImportWith}

-- a buffer of the document that the bytes are leads to this name, and no buffer before it has a
-- fault
pub record IsAskedOfFile (names : Names) (bytes : List ℕ) (name : Named) : Type 0 where
  pub root : Root
  pub blob : Option (List ℕ)
  pub valid : IsValidDocument bytes root blob
  pub asked : IsAskedFor names (sources_of root) blob name

-- the source failed at such a name, and noted it; or one of the five layers does not hold, and
-- nothing was noted
abbrev pub FailsOrRefuses : Names → List ℕ → List Named → List Named → Error → Type 0
FailsOrRefuses names bytes old new (Io cause) =
    (name : Named) × IsAskedOfFile names bytes name × (new ≡ name ∷ old)
FailsOrRefuses names bytes old new Memory = new ≡ old
FailsOrRefuses names bytes old new e = (new ≡ old) × RefusesImportWith names bytes e

-- the source gives this file at the path, and all five layers hold of it
pub record AcceptsFile (names : Names) (path : List ℕ) (r : Root) (buffers : List (List ℕ))
    : Type 0 where
  pub bytes : List ℕ
  pub gives : Gives names (File path) bytes
  pub accepted : AcceptsWith names bytes r buffers

-- the source gives a file at the path, which is refused, or a name that a buffer leads to failed
pub record FailsBehindPath (names : Names) (path : List ℕ) (old new : List Named) (e : Error)
    : Type 0 where
  pub bytes : List ℕ
  pub gives : Gives names (File path) bytes
  pub told : FailsOrRefuses names bytes old new e

-- the source gave nothing at the path, or this
abbrev pub RefusesFileAt : Names → List ℕ → List Named → List Named → Error → Type 0
RefusesFileAt names path old new e =
    IsUnanswered names (File path) old new e ⊎ FailsBehindPath names path old new e

-- of no other root can the file at the path be the document, but for how it lies in memory, and
-- none of other bytes are the buffers
abbrev pub IsOnlyFile : Names → List ℕ → Root → List (List ℕ) → Type 0
IsOnlyFile names path r buffers =
    (s : Root) (others : List (List ℕ)) → AcceptsFile names path s others
    → (root.content s ≡ root.content r) × (others ≡ buffers)

abbrev pub IsNotAcceptedFile : Names → List ℕ → Type 0
IsNotAcceptedFile names path =
    (s : Root) (buffers : List (List ℕ)) → AcceptsFile names path s buffers → ⊥

-- the error is not that a source failed
abbrev pub IsNotIo : Error → Type 0
IsNotIo (Io cause) = ⊥
IsNotIo _ = ⊤

-- what is known of the names of files: they can be asked for where there is a base
abbrev pub names_behind : {A : Type 0} → Option A → Names
names_behind None = Nowhere
names_behind (Some base) = Anywhere

-- the text of a path up to and with its last `/`: what is left names a file in that folder
pub record IsBaseOf (path base : List ℕ) : Type 0 where
  pub name : List ℕ
  pub whole : path ≡ base ++ name
  pub no_slash : (i : ℕ) → i < length name → get_or name i 0 ≢ 47
  pub ends : (base ≡ []) ⊎ ((front : List ℕ) × (base ≡ front ++ 47 ∷ []))
