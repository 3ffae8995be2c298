-- From a document and its buffers to the import, for the contracts of `import_bytes` and of
-- `import_slice_with`. The bytes are imported in one way (`one_import`), and not refused as well
-- (`not_accepted`).
use Rattle.std.proofs.Common.{◌≡◌, ◌≢◌, ℕ, List, Result, Ok, Err, length, refl, inr}
use Rattle.std.specs.Prelude.{Option, IfErr}
use Rattle.gltf_glb.specs.declared.error.Error.{Error}
use Rattle.gltf_glb.specs.declared.error.Error.TheVariants as error
use Rattle.gltf_json.specs.Documents.{root}
use Rattle.gltf_json.specs.declared.root.Root.{Root}
use Rattle.gltf_names.specs.Named.{Named}
use Rattle.gltf_buffers.specs.Buffers.{BufferFault, sources_of, AreBytes, HasBufferFault}
use Rattle.gltf_buffers.specs.Buffers.{IsAskedFor}
use Rattle.gltf_buffers.specs.ErrorLaws.{named_fault}
use Rattle.gltf_buffers.specs.Errors.{FailsOrNames}
use Rattle.gltf_buffers.specs.Names.{Names, Nowhere, AreKnown}
use Rattle.gltf.specs.Files.{IsNotIo}
use Rattle.gltf_options.specs.Files.{FailsOrRefusesBesides}
use Rattle.gltf_options.specs.Import.{IsValidBesides, IsOnlyBesides, AcceptsBesides}
use Rattle.gltf_options.specs.Import.{IsOnlyImportBesides, IsNoValidBesides}
use Rattle.gltf_options.specs.Import.{IsNotAcceptedBesides}
use Rattle.gltf_options.proofs.Buffers.{sources_alike, one_buffers, no_buffers}
use Rattle.gltf_options.proofs.Shown.{Alike}

-- ---- the whole

-- whatever else is accepted shows what the one document shows, with bytes of its buffers
also_read : (also : List (List ℕ)) (names : Names) (bytes : List ℕ) (r s : Root)
    (taken others : List (List ℕ)) (blob : Option (List ℕ)) (buffers : List (List ℕ)) → Alike
    → IsOnlyBesides also bytes r taken blob → AcceptsBesides also names bytes s others buffers
    → (root.content s ≡ root.content r) × (others ≡ taken)
    × AreBytes names (sources_of r) blob (length (sources_of r)) buffers
also_read also names bytes r s taken others blob buffers alike only accepted =
    let same = only s others accepted.blob accepted.valid.document in
    let sources = sources_alike s r (alike s r same.0) in
    (same.0, same.1, rw (sources, same.2) at accepted.data_)

pub one_import : (also : List (List ℕ)) (names : Names) (bytes : List ℕ) (r : Root)
    (taken : List (List ℕ)) (blob : Option (List ℕ)) (buffers : List (List ℕ)) → Alike
    → AreKnown names → IsOnlyBesides also bytes r taken blob
    → AreBytes names (sources_of r) blob (length (sources_of r)) buffers
    → IsOnlyImportBesides also names bytes r taken buffers
one_import also names bytes r taken blob buffers alike known only all s others read accepted =
    let same = also_read also names bytes r s taken others blob read alike only accepted in
    (same.0, same.1, one_buffers names (sources_of r) blob read buffers known same.2 all)

none_fails : (P : BufferFault → Type 0) (Q : Named → Type 0) (old new : List Named) (e : Error)
    → ((fault : BufferFault) → P fault → ⊥) → e ≢ error.Memory → IsNotIo e
    → FailsOrNames P Q old new e → ⊥
none_fails P Q old new (error.Io cause) none other fine told = fine
none_fails P Q old new error.Memory none other fine told = other refl
none_fails P Q old new e none other fine told =
    let named = named_fault P e told.1 in none named.0 named.1

-- where a buffer has a fault, the bytes are not accepted
pub not_accepted : (also : List (List ℕ)) (names : Names) (bytes : List ℕ) (r : Root)
    (taken : List (List ℕ)) (blob : Option (List ℕ)) (old new : List Named) (e : Error) → Alike
    → AreKnown names → IsOnlyBesides also bytes r taken blob
    → FailsOrNames (HasBufferFault names (sources_of r) blob)
    (IsAskedFor names (sources_of r) blob) old new e
    → e ≢ error.Memory → IsNotIo e → IsNotAcceptedBesides also names bytes
not_accepted also names bytes r taken blob old new e alike known only fails other fine
    s others buffers accepted =
    let same = also_read also names bytes r s taken others blob buffers alike only accepted in
    none_fails (HasBufferFault names (sources_of r) blob) (IsAskedFor names (sources_of r) blob)
    old new e (λ fault wrong. no_buffers names (sources_of r) blob buffers fault known same.2 wrong)
    other fine fails

pub not_accepted_of_none : (also : List (List ℕ)) (names : Names) (bytes : List ℕ)
    → IsNoValidBesides also bytes → IsNotAcceptedBesides also names bytes
not_accepted_of_none also names bytes none s taken buffers accepted =
    none s taken accepted.blob accepted.valid

-- ---- what an error says

pub refuses_buffers : (also : List (List ℕ)) (names : Names) (bytes : List ℕ) (r : Root)
    (taken : List (List ℕ)) (blob : Option (List ℕ)) (old new : List Named) (e : Error)
    → IsValidBesides also bytes r taken blob
    → FailsOrNames (HasBufferFault names (sources_of r) blob)
    (IsAskedFor names (sources_of r) blob) old new e
    → FailsOrRefusesBesides also names bytes old new e
refuses_buffers also names bytes r taken blob old new (error.Io cause) valid fails = (
  fails.0,
  record { root = r; taken = taken; blob = blob; valid = valid; asked = fails.1 },
  fails.2,
)
refuses_buffers also names bytes r taken blob old new error.Memory valid fails = fails
refuses_buffers also names bytes r taken blob old new e valid fails = (
  fails.0,
  inr (record { root = r; taken = taken; blob = blob; valid = valid; fails = fails.1 }),
)

-- ---- where no name can be asked for

not_io : (also : List (List ℕ)) (bytes : List ℕ) (old new : List Named) (e : Error)
    → FailsOrRefusesBesides also Nowhere bytes old new e → IsNotIo e
not_io also bytes old new (error.Io cause) told = absurd told.1.asked.leads.0
not_io also bytes old new e told = tt

pub nowhere_exact : {T : Type 0} (also : List (List ℕ)) (bytes : List ℕ)
    (old new : List Named) (result : Result T Error)
    → IfErr result (FailsOrRefusesBesides also Nowhere bytes old new)
    → IfErr result (λ e. e ≢ error.Memory → IsNotIo e
    → IsNotAcceptedBesides also Nowhere bytes)
    → IfErr result (λ e. e ≢ error.Memory → IsNotAcceptedBesides also Nowhere bytes)
nowhere_exact also bytes old new (Ok x) told exact = tt
nowhere_exact also bytes old new (Err e) told exact = λ other.
    exact other (not_io also bytes old new e told)
