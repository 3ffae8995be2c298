-- What the bytes that a source gave for a path say of the whole.
use Rattle.std.proofs.Common.{◌≡◌, ◌≢◌, ℕ, List, Vec, Global, Result, Ok, Err, refl, sym, subst}
use Rattle.std.proofs.Common.{inr, ◌∙◌}
use Rattle.std.specs.Prelude.{Option, Some, None, IfOk, IfErr}
use Rattle.gltf_glb.specs.declared.error.Error.{Error}
use Rattle.gltf_glb.specs.declared.error.Error.TheVariants as error
use Rattle.gltf_json.specs.declared.root.Root.{Root}
use Rattle.gltf_names.specs.Named.{Named, File}
use Rattle.gltf_buffers.specs.declared.data.Data.{Data}
use Rattle.gltf_buffers.specs.Errors.{IsUnanswered}
use Rattle.gltf_buffers.specs.Names.{Names, Nowhere, Anywhere, Held, AreKnown, Gives, names_of}
use Rattle.gltf.specs.Files.{FailsOrRefuses, AcceptsFile, RefusesFileAt, IsOnlyFile}
use Rattle.gltf.specs.Files.{IsNotAcceptedFile, IsNotIo}
use Rattle.gltf.specs.Import.{AcceptsWith, IsOnlyImportWith, IsNotAcceptedWith}
use Rattle.gltf.specs.Shown.{bytes_of_each}

one_file : (names : Names) (name : Named) (a b : List ℕ) → AreKnown names → Gives names name a
    → Gives names name b → a ≡ b
one_file Nowhere name a b known p q = absurd p
one_file Anywhere name a b known p q = absurd known
one_file (Held holds) name a b known p q = let e : Some a ≡ Some b = sym p ∙ q in cc

-- the bytes that are given are those that a file at the path is accepted for
accepts_given : (names : Names) (path bytes : List ℕ) (r : Root) (buffers : List (List ℕ))
    → AreKnown names → Gives names (File path) bytes → AcceptsFile names path r buffers
    → AcceptsWith names bytes r buffers
accepts_given names path bytes r buffers known gives file =
    subst (λ (t : List ℕ). AcceptsWith names t r buffers)
    (one_file names (File path) file.bytes bytes known file.gives gives) file.accepted

pub ok_file : (names : Names) (path bytes : List ℕ)
    (result : Result (Root × Vec Data Global) Error) → Gives names (File path) bytes
    → IfOk result (λ read. AcceptsWith names bytes read.0 (bytes_of_each read.1.items))
    → IfOk result (λ read. AcceptsFile names path read.0 (bytes_of_each read.1.items))
ok_file names path bytes (Ok read) gives accepted =
    record { bytes = bytes; gives = gives; accepted = accepted }
ok_file names path bytes (Err e) gives accepted = tt

pub only_file : (names : Names) (path bytes : List ℕ)
    (result : Result (Root × Vec Data Global) Error) → AreKnown names
    → Gives names (File path) bytes
    → IfOk result (λ read. IsOnlyImportWith names bytes read.0 (bytes_of_each read.1.items))
    → IfOk result (λ read. IsOnlyFile names path read.0 (bytes_of_each read.1.items))
only_file names path bytes (Ok read) known gives only = λ s others file.
    only s others (accepts_given names path bytes s others known gives file)
only_file names path bytes (Err e) known gives only = tt

-- where the bytes are not accepted, neither is the file
pub not_file : (names : Names) (path bytes : List ℕ) → AreKnown names
    → Gives names (File path) bytes → IsNotAcceptedWith names bytes → IsNotAcceptedFile names path
not_file names path bytes known gives exact s buffers file =
    exact s buffers (accepts_given names path bytes s buffers known gives file)

pub err_not_file : {T : Type 0} (names : Names) (path bytes : List ℕ) (result : Result T Error)
    → AreKnown names → Gives names (File path) bytes
    → IfErr result (λ e. e ≢ error.Memory → IsNotIo e → IsNotAcceptedWith names bytes)
    → IfErr result (λ e. e ≢ error.Memory → IsNotIo e → IsNotAcceptedFile names path)
err_not_file names path bytes (Ok x) known gives exact = tt
err_not_file names path bytes (Err e) known gives exact = λ other fine.
    not_file names path bytes known gives (exact other fine)

pub err_file : {T : Type 0} (names : Names) (path bytes : List ℕ) (old new : List Named)
    (result : Result T Error) → Gives names (File path) bytes
    → IfErr result (FailsOrRefuses names bytes old new)
    → IfErr result (RefusesFileAt names path old new)
err_file names path bytes old new (Ok x) gives told = tt
err_file names path bytes old new (Err e) gives told =
    inr (record { bytes = bytes; gives = gives; told = told })

not_nowhere : (held : Option (Named → Option (List ℕ))) → names_of held ≡ Nowhere → ⊥
not_nowhere None e = cc
not_nowhere (Some holds) e = cc

-- a path that was not answered failed, or there was not enough memory
pub path_failed : (held : Option (Named → Option (List ℕ))) (path : List ℕ)
    (old new : List Named) (e : Error) → IsUnanswered (names_of held) (File path) old new e
    → e ≢ error.Memory → IsNotIo e → IsNotAcceptedFile (names_of held) path
path_failed held path old new (error.Io cause) told other fine = absurd fine
path_failed held path old new error.Memory told other fine = absurd (other refl)
path_failed held path old new error.ExternalReferenceInSliceImport told other fine =
    absurd (not_nowhere held told.0)
path_failed held path old new _ told other fine = absurd told

-- the document of the file is refused, and nothing was asked for after the path
pub refuses_behind : (names : Names) (path bytes : List ℕ) (old new : List Named) (e : Error)
    → Gives names (File path) bytes → new ≡ old → FailsOrRefuses names bytes old old e
    → RefusesFileAt names path old new e
refuses_behind names path bytes old new e gives same told = inr (record {
  bytes = bytes;
  gives = gives;
  told = subst (λ (t : List Named). FailsOrRefuses names bytes old t e) (sym same) told;
})
