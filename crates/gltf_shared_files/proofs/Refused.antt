-- Why a file is refused.
use Rattle.std.proofs.Common.{◌≡◌, ◌⊎◌, ℕ, List, inl, inr}
use Rattle.std.specs.Prelude.{Option}
use Rattle.std.specs.declared.io.Error.{Error as IoError}
use Rattle.gltf_glb.specs.declared.error.Error.{Error}
use Rattle.gltf_glb.specs.declared.error.Error.TheVariants as error
use Rattle.gltf_json.specs.declared.root.Root.{Root}
use Rattle.gltf_names.specs.Named.{Named, File}
use Rattle.gltf_buffers.specs.Buffers.{sources_of, HasBufferFault, IsAskedFor}
use Rattle.gltf_buffers.specs.Errors.{FailsOrNames}
use Rattle.gltf_buffers.specs.Names.{Names, Gives}
use Rattle.gltf.specs.Errors.{OutOfMemoryOr}
use Rattle.gltf.specs.Files.{FailsOrRefuses, RefusesFileAt}
use Rattle.gltf.specs.Import.{IsValidDocument, RefusesDocument}

no_io : (bytes : List ℕ) (cause : IoError) → RefusesDocument bytes (error.Io cause) → ⊥
no_io bytes cause (inl (inl told)) = let names = told.names in cc
no_io bytes cause (inl (inr told)) = let names = told.names in cc
no_io bytes cause (inr told) = told.fails

refuses_document : (names : Names) (bytes : List ℕ) (old new : List Named) (e : Error)
    → new ≡ old → OutOfMemoryOr (RefusesDocument bytes) e → FailsOrRefuses names bytes old new e
refuses_document names bytes old new error.Memory same told = same
refuses_document names bytes old new (error.Io cause) same told = absurd (no_io bytes cause told)
refuses_document names bytes old new e same told = (same, inl told)

told_buffers : (names : Names) (bytes : List ℕ) (r : Root) (blob : Option (List ℕ))
    (old new : List Named) (e : Error) → IsValidDocument bytes r blob
    → FailsOrNames (HasBufferFault names (sources_of r) blob)
    (IsAskedFor names (sources_of r) blob) old new e
    → FailsOrRefuses names bytes old new e
told_buffers names bytes r blob old new (error.Io cause) valid fails = (
  fails.0,
  record { root = r; blob = blob; valid = valid; asked = fails.1 },
  fails.2,
)
told_buffers names bytes r blob old new error.Memory valid fails = fails
told_buffers names bytes r blob old new e valid fails =
    (fails.0, inr (record { root = r; blob = blob; valid = valid; fails = fails.1 }))

-- an error of the document: nothing was noted
pub of_document : (names : Names) (path bytes : List ℕ) (old new : List Named) (e : Error)
    → Gives names (File path) bytes → new ≡ old → OutOfMemoryOr (RefusesDocument bytes) e
    → (e ≡ error.Memory) ⊎ RefusesFileAt names path old new e
of_document names path bytes old new e gives same told = inr (inr (record {
  bytes = bytes;
  gives = gives;
  told = refuses_document names bytes old new e same told;
}))

-- an error of its buffers
pub of_buffers : (names : Names) (path bytes : List ℕ) (r : Root) (blob : Option (List ℕ))
    (old new : List Named) (e : Error) → Gives names (File path) bytes
    → IsValidDocument bytes r blob
    → (e ≡ error.Memory) ⊎ FailsOrNames (HasBufferFault names (sources_of r) blob)
    (IsAskedFor names (sources_of r) blob) old new e
    → (e ≡ error.Memory) ⊎ RefusesFileAt names path old new e
of_buffers names path bytes r blob old new e gives valid fails = elim fails [
  | inl memory ↦ inl memory
  | inr told ↦ inr (inr (record {
    bytes = bytes;
    gives = gives;
    told = told_buffers names bytes r blob old new e valid told;
  }))
]
