-- What the bytes that a source gave for a path say of the whole, for `import_from_with`.
use Rattle.std.proofs.Common.{◌≡◌, ◌≢◌, ℕ, List, Result, Ok, Err, sym, subst, ◌∙◌}
use Rattle.std.proofs.Common.{Some}
use Rattle.std.specs.Prelude.{IfOk, IfErr}
use Rattle.gltf_glb.specs.declared.error.Error.{Error}
use Rattle.gltf_glb.specs.declared.error.Error.TheVariants as error
use Rattle.gltf_json.specs.declared.root.Root.{Root}
use Rattle.gltf_names.specs.Named.{Named, File}
use Rattle.gltf_buffers.specs.Names.{Names, Nowhere, Anywhere, Held, AreKnown, Gives}
use Rattle.gltf.specs.Files.{IsNotIo}
use Rattle.gltf.specs.Shown.{bytes_of_each}
use Rattle.gltf_options.specs.Names.{texts}
use Rattle.gltf_options.specs.declared.imports.Imported.{Imported}
use Rattle.gltf_lenient.specs.Files.{AcceptsMendedFile, IsOnlyMendedFile, IsNotAcceptedMendedFile}
use Rattle.gltf_lenient.specs.Import.{AcceptsMended, IsOnlyMendedImport, IsNotAcceptedMended}
use Rattle.gltf_lenient.specs.declared.options.Options.{Options}

one_file : (names : Names) (name : Named) (a b : List ℕ) → AreKnown names → Gives names name a
    → Gives names name b → a ≡ b
one_file Nowhere name a b known p q = absurd p
one_file Anywhere name a b known p q = absurd known
one_file (Held holds) name a b known p q = let e : Some a ≡ Some b = sym p ∙ q in cc

-- the bytes that are given are those that a file at the path is accepted for
accepts_given : (options : Options) (names : Names) (path bytes : List ℕ) (r : Root)
    (taken buffers : List (List ℕ)) → AreKnown names → Gives names (File path) bytes
    → AcceptsMendedFile options names path r taken buffers
    → AcceptsMended options names bytes r taken buffers
accepts_given options names path bytes r taken buffers known gives file =
    subst (λ (t : List ℕ). AcceptsMended options names t r taken buffers)
    (one_file names (File path) file.bytes bytes known file.gives gives) file.accepted

pub only_file : (options : Options) (names : Names) (path bytes : List ℕ)
    (result : Result Imported Error) → AreKnown names → Gives names (File path) bytes
    → IfOk result (λ read. IsOnlyMendedImport options names bytes read.document
    (texts read.also_required.items) (bytes_of_each read.buffers.items))
    → IfOk result (λ read. IsOnlyMendedFile options names path read.document
    (texts read.also_required.items) (bytes_of_each read.buffers.items))
only_file options names path bytes (Ok read) known gives only = λ s others data_ file.
    only s others data_
    (accepts_given options names path bytes s others data_ known gives file)
only_file options names path bytes (Err e) known gives only = tt

pub err_not_file : {T : Type 0} (options : Options) (names : Names) (path bytes : List ℕ)
    (result : Result T Error) → AreKnown names → Gives names (File path) bytes
    → IfErr result (λ e. e ≢ error.Memory → IsNotIo e → IsNotAcceptedMended options names bytes)
    → IfErr result (λ e. e ≢ error.Memory → IsNotIo e
    → IsNotAcceptedMendedFile options names path)
err_not_file options names path bytes (Ok x) known gives exact = tt
err_not_file options names path bytes (Err e) known gives exact = λ other fine s taken buffers file.
    exact other fine s taken buffers
    (accepts_given options names path bytes s taken buffers known gives file)
