-- From a document and its buffers to the import: for the contracts of `import_slice` and
-- `import_from`. `ok_accepted` and `ok_only` are for a result, `refuses_document` for a fault of
-- the document, `err_buffers` and `err_exact` for one of its buffers. Each splits on the result,
-- and those of errors on their kind, as `Io` and `Memory` are no fault of the bytes. `one_import`
-- and `not_accepted` of `Once` do the work. `nowhere_refused` and `nowhere_exact` are for
-- `import_slice`, where no name can be asked for and so no `Io` comes.
use Rattle.std.proofs.Common.{◌≡◌, ◌≢◌, ℕ, List, Vec, Global, Result, Ok, Err, length, sym, subst}
use Rattle.std.proofs.Common.{inl, inr, refl}
use Rattle.std.specs.Prelude.{Option, IfOk, IfErr}
use Rattle.std.specs.declared.io.Error.{Error as IoError}
use Rattle.gltf_glb.specs.declared.error.Error.{Error}
use Rattle.gltf_glb.specs.declared.error.Error.TheVariants as error
use Rattle.gltf_json.specs.declared.root.Root.{Root}
use Rattle.gltf_names.specs.Named.{Named}
use Rattle.gltf_buffers.specs.declared.data.Data.{Data}
use Rattle.gltf_buffers.specs.Buffers.{sources_of, AreBytes, HasBufferFault, IsAskedFor}
use Rattle.gltf_buffers.specs.Errors.{FailsOrNames}
use Rattle.gltf_buffers.specs.Names.{Names, Nowhere, AreKnown}
use Rattle.gltf.specs.Errors.{OutOfMemoryOr}
use Rattle.gltf.specs.Files.{FailsOrRefuses, IsNotIo}
use Rattle.gltf.specs.Import.{IsValidDocument, IsOnlyDocument, AcceptsWith, IsOnlyImportWith}
use Rattle.gltf.specs.Import.{RefusesDocument, RefusesImport, IsNotAcceptedWith, IsNotAccepted}
use Rattle.gltf.specs.Shown.{bytes_of_each}
use Rattle.gltf.proofs.Once.{Alike, one_import, not_accepted}

-- ---- an error of the document

no_io : (bytes : List ℕ) (cause : IoError) → RefusesDocument bytes (error.Io cause) → ⊥
no_io bytes cause (inl (inl told)) = let names = told.names in cc
no_io bytes cause (inl (inr told)) = let names = told.names in cc
no_io bytes cause (inr told) = told.fails

-- what refuses a document refuses it whatever names hold, and asks for none
pub refuses_document : (names : Names) (bytes : List ℕ) (old : List Named) (e : Error)
    → OutOfMemoryOr (RefusesDocument bytes) e → FailsOrRefuses names bytes old old e
refuses_document names bytes old error.Memory told = refl
refuses_document names bytes old (error.Io cause) told = absurd (no_io bytes cause told)
refuses_document names bytes old e told = (refl, inl told)

-- ---- the document with the bytes of its buffers

pub ok_accepted : (names : Names) (bytes : List ℕ) (document : Root) (blob : Option (List ℕ))
    (result : Result (Root × Vec Data Global) Error) → IsValidDocument bytes document blob
    → IfOk result (λ read. read.0 ≡ document)
    → IfOk result (λ read. AreBytes names (sources_of document) blob
    (length (sources_of document)) (bytes_of_each read.1.items))
    → IfOk result (λ read. AcceptsWith names bytes read.0 (bytes_of_each read.1.items))
ok_accepted names bytes document blob (Ok read) valid same has =
    subst (λ r. AcceptsWith names bytes r (bytes_of_each read.1.items)) (sym same)
    (record { blob = blob; valid = valid; data_ = has })
ok_accepted names bytes document blob (Err e) valid same has = tt

pub ok_only : (names : Names) (bytes : List ℕ) (document : Root) (blob : Option (List ℕ))
    (result : Result (Root × Vec Data Global) Error) → Alike → AreKnown names
    → IsOnlyDocument bytes document blob
    → IfOk result (λ read. read.0 ≡ document)
    → IfOk result (λ read. AreBytes names (sources_of document) blob
    (length (sources_of document)) (bytes_of_each read.1.items))
    → IfOk result (λ read. IsOnlyImportWith names bytes read.0 (bytes_of_each read.1.items))
ok_only names bytes document blob (Ok read) alike known only same has =
    subst (λ r. IsOnlyImportWith names bytes r (bytes_of_each read.1.items)) (sym same)
    (one_import names bytes document blob (bytes_of_each read.1.items) alike known only has)
ok_only names bytes document blob (Err e) alike known only same has = tt

-- ---- an error of its buffers

abbrev pub FailsWith : Names → Root → Option (List ℕ) → List Named → List Named → Error → Type 0
FailsWith names r blob old new e =
    FailsOrNames (HasBufferFault names (sources_of r) blob) (IsAskedFor names (sources_of r) blob)
    old new e

told_buffers : (names : Names) (bytes : List ℕ) (r : Root) (blob : Option (List ℕ))
    (old new : List Named) (e : Error) → IsValidDocument bytes r blob
    → FailsWith names r blob old new e → FailsOrRefuses names bytes old new e
told_buffers names bytes r blob old new (error.Io cause) valid fails = (
  fails.0,
  record { root = r; blob = blob; valid = valid; asked = fails.1 },
  fails.2,
)
told_buffers names bytes r blob old new error.Memory valid fails = fails
told_buffers names bytes r blob old new e valid fails =
    (fails.0, inr (record { root = r; blob = blob; valid = valid; fails = fails.1 }))

pub err_buffers : {T : Type 0} (names : Names) (bytes : List ℕ) (r : Root)
    (blob : Option (List ℕ)) (old new : List Named) (result : Result T Error)
    → IsValidDocument bytes r blob → IfErr result (FailsWith names r blob old new)
    → IfErr result (FailsOrRefuses names bytes old new)
err_buffers names bytes r blob old new (Ok x) valid told = tt
err_buffers names bytes r blob old new (Err e) valid told =
    told_buffers names bytes r blob old new e valid told

pub err_exact : {T : Type 0} (names : Names) (bytes : List ℕ) (r : Root)
    (blob : Option (List ℕ)) (old new : List Named) (result : Result T Error) → Alike
    → AreKnown names → IsOnlyDocument bytes r blob
    → IfErr result (FailsWith names r blob old new)
    → IfErr result (λ e. e ≢ error.Memory → IsNotIo e → IsNotAcceptedWith names bytes)
err_exact names bytes r blob old new (Ok x) alike known only told = tt
err_exact names bytes r blob old new (Err e) alike known only told =
    λ other fine. not_accepted names bytes r blob old new e alike known only told other fine

-- ---- where no name can be asked for

pub nowhere_refused : {T : Type 0} (bytes : List ℕ) (old new : List Named)
    (result : Result T Error) → IfErr result (FailsOrRefuses Nowhere bytes old new)
    → IfErr result (OutOfMemoryOr (RefusesImport bytes))
nowhere_refused bytes old new (Ok x) told = tt
nowhere_refused bytes old new (Err e) told = refused e told
  where
    refused : (e : Error) → FailsOrRefuses Nowhere bytes old new e
        → OutOfMemoryOr (RefusesImport bytes) e
    refused (error.Io cause) told = absurd told.1.asked.leads.0
    refused error.Memory told = tt
    refused e told = told.1

pub nowhere_exact : {T : Type 0} (bytes : List ℕ) (r : Root) (blob : Option (List ℕ))
    (old new : List Named) (result : Result T Error) → Alike → IsOnlyDocument bytes r blob
    → IfErr result (FailsWith Nowhere r blob old new)
    → IfErr result (λ e. e ≢ error.Memory → IsNotAccepted bytes)
nowhere_exact bytes r blob old new (Ok x) alike only told = tt
nowhere_exact bytes r blob old new (Err e) alike only told = λ other.
    not_accepted Nowhere bytes r blob old new e alike tt only told other (fine e told)
  where
    fine : (e : Error) → FailsWith Nowhere r blob old new e → IsNotIo e
    fine (error.Io cause) told = absurd told.1.leads.0
    fine e told = tt
