-- With nothing to mend the answers are those of `gltf_options` with the same names.
use Rattle.std.specs.Prelude.{◌↔◌, ℕ, List, Option}
use Rattle.gltf_glb.specs.declared.error.Error.{Error}
use Rattle.gltf_json.specs.declared.root.Root.{Root}
use Rattle.gltf_names.specs.Named.{Named}
use Rattle.gltf_buffers.specs.Names.{Names}
use Rattle.gltf_options.specs.Import.{IsValidBesides, RefusesDocumentBesides, AcceptsBesides}
use Rattle.gltf_options.specs.Import.{RefusesImportBesides}
use Rattle.gltf_options.specs.Files.{AcceptsFileBesides, RefusesFileAtBesides}
use Rattle.gltf_options.specs.Reader.{IsFileBesides, RefusesFileBesides}
use Rattle.gltf_lenient.specs.Import.{also_of, IsValidMended, RefusesMended, AcceptsMended}
use Rattle.gltf_lenient.specs.Import.{RefusesMendedImport}
use Rattle.gltf_lenient.specs.Files.{AcceptsMendedFile, RefusesMendedFileAt}
use Rattle.gltf_lenient.specs.Reader.{IsFileMended, RefusesFileMended}
use Rattle.gltf_lenient.specs.Nothing.{HasNothingToMend, MendsNothing}
use Rattle.gltf_lenient.specs.declared.options.Options.{Options}

-- ---- bytes

-- they are the same documents, with the same names left out and the same blob
abbrev pub AreTheSameDocuments : Type 0
AreTheSameDocuments =
    (options : Options) (bytes : List ℕ) → HasNothingToMend options.mends bytes
    → (r : Root) (taken : List (List ℕ)) (blob : Option (List ℕ))
    → IsValidMended options bytes r taken blob ↔ IsValidBesides (also_of options) bytes r taken blob

-- and the same errors say that they are none
abbrev pub AreRefusedAlike : Type 0
AreRefusedAlike =
    (options : Options) (bytes : List ℕ) → HasNothingToMend options.mends bytes → (e : Error)
    → RefusesMended options bytes e ↔ RefusesDocumentBesides (also_of options) bytes e

-- they are accepted with the same documents, names that are left out, and bytes of buffers
abbrev pub AreTheSameImports : Type 0
AreTheSameImports =
    (options : Options) (bytes : List ℕ) → HasNothingToMend options.mends bytes
    → (names : Names) (r : Root) (taken buffers : List (List ℕ))
    → AcceptsMended options names bytes r taken buffers
    ↔ AcceptsBesides (also_of options) names bytes r taken buffers

-- and refused with the same errors
abbrev pub AreImportsRefusedAlike : Type 0
AreImportsRefusedAlike =
    (options : Options) (bytes : List ℕ) → HasNothingToMend options.mends bytes
    → (names : Names) (e : Error)
    → RefusesMendedImport options names bytes e
    ↔ RefusesImportBesides (also_of options) names bytes e

-- ---- files of a source

-- the file at a path is accepted with the same documents, names that are left out, and bytes of
-- buffers
abbrev pub AreTheSameFiles : Type 0
AreTheSameFiles =
    (options : Options) → MendsNothing options.mends
    → (names : Names) (path : List ℕ) (r : Root) (taken buffers : List (List ℕ))
    → AcceptsMendedFile options names path r taken buffers
    ↔ AcceptsFileBesides (also_of options) names path r taken buffers

-- and refused with the same errors, after the same failures of the source
abbrev pub AreFilesRefusedAlike : Type 0
AreFilesRefusedAlike =
    (options : Options) → MendsNothing options.mends
    → (names : Names) (path : List ℕ) (old new : List Named) (e : Error)
    → RefusesMendedFileAt options names path old new e
    ↔ RefusesFileAtBesides (also_of options) names path old new e

-- ---- files out of a reader

-- the bytes that came are the same one document
abbrev pub AreReadAlike : Type 0
AreReadAlike =
    (options : Options) → MendsNothing options.mends
    → (left : Option (List ℕ)) (came : List ℕ) (r : Root) (taken : List (List ℕ))
    (blob : Option (List ℕ))
    → IsFileMended options left came r taken blob
    ↔ IsFileBesides (also_of options) left came r taken blob

-- or the same errors say why they are none
abbrev pub AreReadingsRefusedAlike : Type 0
AreReadingsRefusedAlike =
    (options : Options) → MendsNothing options.mends
    → (left : Option (List ℕ)) (came : List ℕ) (e : Error)
    → RefusesFileMended options left came e
    ↔ RefusesFileBesides (also_of options) left came e
