-- Why a file is refused that is mended.
use Rattle.std.proofs.Common.{◌≡◌, ◌⊎◌, ℕ, List, inl, inr}
use Rattle.std.specs.Prelude.{Option}
use Rattle.std.specs.declared.io.Error.{Error as IoError}
use Rattle.gltf_glb.specs.declared.error.Error.{Error}
use Rattle.gltf_glb.specs.declared.error.Error.TheVariants as error
use Rattle.gltf_json.specs.declared.root.Root.{Root}
use Rattle.gltf_names.specs.Named.{Named, File}
use Rattle.gltf_buffers.specs.Buffers.{sources_of, HasBufferFault, IsAskedFor}
use Rattle.gltf_buffers.specs.Errors.{FailsOrNames}
use Rattle.gltf_buffers.specs.Names.{Names, Gives}
use Rattle.gltf.specs.Errors.{OutOfMemoryOr}
use Rattle.gltf_lenient.specs.Files.{FailsOrRefusesMended, RefusesMendedFileAt}
use Rattle.gltf_lenient.specs.Import.{IsValidMended, RefusesMended}
use Rattle.gltf_lenient.specs.declared.options.Options.{Options}

no_io : (options : Options) (bytes : List ℕ) (cause : IoError)
    → RefusesMended options bytes (error.Io cause) → ⊥
no_io options bytes cause (inl (inl told)) = let names = told.names in cc
no_io options bytes cause (inl (inr told)) = let names = told.names in cc
no_io options bytes cause (inr told) = told.fails

refuses_document : (options : Options) (names : Names) (bytes : List ℕ) (old new : List Named)
    (e : Error) → new ≡ old → OutOfMemoryOr (RefusesMended options bytes) e
    → FailsOrRefusesMended options names bytes old new e
refuses_document options names bytes old new error.Memory same told = same
refuses_document options names bytes old new (error.Io cause) same told =
    absurd (no_io options bytes cause told)
refuses_document options names bytes old new e same told = (same, inl told)

told_buffers : (options : Options) (names : Names) (bytes : List ℕ) (r : Root)
    (taken : List (List ℕ)) (blob : Option (List ℕ)) (old new : List Named) (e : Error)
    → IsValidMended options bytes r taken blob
    → FailsOrNames (HasBufferFault names (sources_of r) blob)
    (IsAskedFor names (sources_of r) blob) old new e
    → FailsOrRefusesMended options names bytes old new e
told_buffers options names bytes r taken blob old new (error.Io cause) valid fails = (
  fails.0,
  record { root = r; taken = taken; blob = blob; valid = valid; asked = fails.1 },
  fails.2,
)
told_buffers options names bytes r taken blob old new error.Memory valid fails = fails
told_buffers options names bytes r taken blob old new e valid fails = (
  fails.0,
  inr (record { root = r; taken = taken; blob = blob; valid = valid; fails = fails.1 }),
)

-- an error of the document: nothing was noted
pub of_document : (options : Options) (names : Names) (path bytes : List ℕ)
    (old new : List Named) (e : Error) → Gives names (File path) bytes → new ≡ old
    → OutOfMemoryOr (RefusesMended options bytes) e
    → (e ≡ error.Memory) ⊎ RefusesMendedFileAt options names path old new e
of_document options names path bytes old new e gives same told = inr (inr (record {
  bytes = bytes;
  gives = gives;
  fails = refuses_document options names bytes old new e same told;
}))

-- an error of its buffers
pub of_buffers : (options : Options) (names : Names) (path bytes : List ℕ) (r : Root)
    (taken : List (List ℕ)) (blob : Option (List ℕ)) (old new : List Named) (e : Error)
    → Gives names (File path) bytes → IsValidMended options bytes r taken blob
    → (e ≡ error.Memory) ⊎ FailsOrNames (HasBufferFault names (sources_of r) blob)
    (IsAskedFor names (sources_of r) blob) old new e
    → (e ≡ error.Memory) ⊎ RefusesMendedFileAt options names path old new e
of_buffers options names path bytes r taken blob old new e gives valid fails = elim fails [
  | inl memory ↦ inl memory
  | inr told ↦ inr (inr (record {
    bytes = bytes;
    gives = gives;
    fails = told_buffers options names bytes r taken blob old new e valid told;
  }))
]
