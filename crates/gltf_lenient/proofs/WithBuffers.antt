-- From a mended document and its buffers to the import.
use Rattle.std.proofs.Common.{◌≢◌, ℕ, List, Result, Ok, Err, length, refl, inr, sym, subst}
use Rattle.std.specs.Prelude.{Option, IfErr}
use Rattle.gltf_glb.specs.declared.error.Error.{Error}
use Rattle.gltf_glb.specs.declared.error.Error.TheVariants as error
use Rattle.gltf_json.specs.declared.root.Root.{Root}
use Rattle.gltf_names.specs.Named.{Named}
use Rattle.gltf_buffers.specs.Buffers.{BufferFault, sources_of, AreBytes, HasBufferFault}
use Rattle.gltf_buffers.specs.Buffers.{IsAskedFor}
use Rattle.gltf_buffers.specs.ErrorLaws.{named_fault}
use Rattle.gltf_buffers.specs.Errors.{FailsOrNames}
use Rattle.gltf_buffers.specs.Names.{Names, Nowhere, AreKnown}
use Rattle.gltf.specs.Files.{IsNotIo}
use Rattle.gltf_options.specs.Alike.{HaveOneBuffers, HaveNoBuffers}
use Rattle.gltf_lenient.specs.Files.{FailsOrRefusesMended}
use Rattle.gltf_lenient.specs.Import.{IsValidMended, IsOnlyMended, IsNoValidMended}
use Rattle.gltf_lenient.specs.Import.{IsOnlyMendedImport, IsNotAcceptedMended}
use Rattle.gltf_lenient.specs.declared.options.Options.{Options}

-- ---- one import

pub one_import : (options : Options) (names : Names) (bytes : List ℕ) (r : Root)
    (taken : List (List ℕ)) (blob : Option (List ℕ)) (buffers : List (List ℕ)) → HaveOneBuffers
    → AreKnown names → IsOnlyMended options bytes r taken blob
    → AreBytes names (sources_of r) blob (length (sources_of r)) buffers
    → IsOnlyMendedImport options names bytes r taken buffers
one_import options names bytes r taken blob buffers one known only all s others read accepted =
    let same = only s others accepted.blob accepted.valid.document in
    let these = subst (λ b. AreBytes names (sources_of s) b (length (sources_of s)) read) same.2
    accepted.data_ in
    (same.0, same.1, one names s r blob read buffers known same.0 these all)

none_fails : (P : BufferFault → Type 0) (Q : Named → Type 0) (old new : List Named) (e : Error)
    → ((fault : BufferFault) → P fault → ⊥) → e ≢ error.Memory → IsNotIo e
    → FailsOrNames P Q old new e → ⊥
none_fails P Q old new (error.Io cause) none other fine told = fine
none_fails P Q old new error.Memory none other fine told = other refl
none_fails P Q old new e none other fine told =
    let named = named_fault P e told.1 in none named.0 named.1

-- where a buffer has a fault, the bytes are not accepted
pub not_accepted : (options : Options) (names : Names) (bytes : List ℕ) (r : Root)
    (taken : List (List ℕ)) (blob : Option (List ℕ)) (old new : List Named) (e : Error)
    → HaveNoBuffers → AreKnown names → IsOnlyMended options bytes r taken blob
    → FailsOrNames (HasBufferFault names (sources_of r) blob)
    (IsAskedFor names (sources_of r) blob) old new e
    → e ≢ error.Memory → IsNotIo e → IsNotAcceptedMended options names bytes
not_accepted options names bytes r taken blob old new e none known only fails other fine
    s others read accepted =
    let same = only s others accepted.blob accepted.valid.document in
    let these = subst (λ b. AreBytes names (sources_of s) b (length (sources_of s)) read) same.2
    accepted.data_ in
    none_fails (HasBufferFault names (sources_of r) blob) (IsAskedFor names (sources_of r) blob)
    old new e (λ fault wrong. none names r s blob fault read known (sym same.0) wrong these)
    other fine fails

pub not_accepted_of_none : (options : Options) (names : Names) (bytes : List ℕ)
    → IsNoValidMended options bytes → IsNotAcceptedMended options names bytes
not_accepted_of_none options names bytes none s taken buffers accepted =
    none s taken accepted.blob accepted.valid

-- ---- what an error says

pub refuses_buffers : (options : Options) (names : Names) (bytes : List ℕ) (r : Root)
    (taken : List (List ℕ)) (blob : Option (List ℕ)) (old new : List Named) (e : Error)
    → IsValidMended options bytes r taken blob
    → FailsOrNames (HasBufferFault names (sources_of r) blob)
    (IsAskedFor names (sources_of r) blob) old new e
    → FailsOrRefusesMended options names bytes old new e
refuses_buffers options names bytes r taken blob old new (error.Io cause) valid fails = (
  fails.0,
  record { root = r; taken = taken; blob = blob; valid = valid; asked = fails.1 },
  fails.2,
)
refuses_buffers options names bytes r taken blob old new error.Memory valid fails = fails
refuses_buffers options names bytes r taken blob old new e valid fails = (
  fails.0,
  inr (record { root = r; taken = taken; blob = blob; valid = valid; fails = fails.1 }),
)

-- ---- where no name can be asked for

not_io : (options : Options) (bytes : List ℕ) (old new : List Named) (e : Error)
    → FailsOrRefusesMended options Nowhere bytes old new e → IsNotIo e
not_io options bytes old new (error.Io cause) told = absurd told.1.asked.leads.0
not_io options bytes old new e told = tt

pub nowhere_exact : {T : Type 0} (options : Options) (bytes : List ℕ)
    (old new : List Named) (result : Result T Error)
    → IfErr result (FailsOrRefusesMended options Nowhere bytes old new)
    → IfErr result (λ e. e ≢ error.Memory → IsNotIo e
    → IsNotAcceptedMended options Nowhere bytes)
    → IfErr result (λ e. e ≢ error.Memory → IsNotAcceptedMended options Nowhere bytes)
nowhere_exact options bytes old new (Ok x) told exact = tt
nowhere_exact options bytes old new (Err e) told exact = λ other.
    exact other (not_io options bytes old new e told)
