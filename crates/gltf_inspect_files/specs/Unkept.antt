-- What is found in the JSON text of a file besides: undeclared extensions of objects of which no
-- record keeps them (glTF 2.0, section 3.12).
use Rattle.std.specs.Prelude.{◌≡◌, ◌++◌, ℕ, List, [], ⊤, Option, MatchOption}
use Rattle.serde_json.specs.Data as json
use Rattle.gltf_json.specs.Reading.{Reads}
use Rattle.gltf_json.specs.declared.root.Root.{Root}
use Rattle.gltf_glb.specs.declared.error.Error.{Error}
use Rattle.gltf_buffers.specs.Names.{Names, CanBeAsked, Gives}
use Rattle.gltf_names.specs.Named.{Named, File}
use Rattle.gltf.specs.Import.{AreParts, IsDocument}
use Rattle.gltf_findings.specs.Checks.{findings_of}
use Rattle.gltf_inspect_unkept.specs.Documents.{unkept_checks}
use Rattle.gltf_inspect_files.specs.Asking.{AsksForFileOf}
use Rattle.gltf_inspect_files.specs.declared.inspect.Inspected.{Inspected}
use Rattle.gltf_inspect_files.specs.declared.lent.Lent.{Lent}
use Rattle.gltf_inspect_files.specs.Reports.{Found, Said, IsFound, IsOfAccepted, imported_of}
use Rattle.gltf_inspect_files.specs.Reports.{lent_of}
use Rattle.gltf_inspect_files.specs.Within.{said_by}

-- this is what is found in the value of the text of these bytes
abbrev pub IsUnkept : List ℕ → Found → Type 0
IsUnkept bytes found =
    (text : List ℕ) (blob : Option (List ℕ)) (d : json.Data) → AreParts bytes text blob
    → Reads text d → found ≡ findings_of [] (unkept_checks d)

-- the same of bytes that hold a document; of others, which have a cause, nothing
abbrev pub IsUnkeptOf : List ℕ → Option Error → Found → Type 0
IsUnkeptOf bytes cause found = MatchOption cause (IsUnkept bytes found) (λ e. found ≡ [])

-- what is imported is the document of these bytes
abbrev pub IsOfDocument : List ℕ → Option (Root × List (List ℕ)) → Type 0
IsOfDocument bytes imported =
    MatchOption imported ⊤ (λ read. (blob : Option (List ℕ)) × IsDocument bytes read.0 blob)

-- the same file, with what is found in its text behind its report
pub record IsWith (bytes : List ℕ) (file whole : Lent) : Type 0 where
  pub cause : whole.cause ≡ file.cause
  pub imported : whole.imported ≡ file.imported
  pub unkept : Found
  pub is_unkept : IsUnkeptOf bytes file.cause unkept
  pub same : whole.report ≡ file.report ++ unkept

-- a report: what the layers of the file say, and then what is found in its text
pub record IsWhole (IsSaid : Said) (names : Names) (bytes : List ℕ) (cause : Option Error)
    (imported : Option (Root × List (List ℕ))) (report : Found) : Type 0 where
  pub layers : Found
  pub unkept : Found
  pub of_layers : IsFound IsSaid names bytes cause imported layers
  pub of_text : IsUnkeptOf bytes cause unkept
  pub same : report ≡ layers ++ unkept

-- what is known of a file that was looked at
abbrev pub IsWholeReport : Names → List ℕ → Inspected → Type 0
IsWholeReport names bytes file =
    IsWhole IsOfAccepted names bytes file.cause (imported_of file.imported) file.report

-- the same of the file at a path, which the source gives
abbrev pub IsWholeReportOfFile : Names → List ℕ → Inspected → Type 0
IsWholeReportOfFile names path file =
    (bytes : List ℕ) × Gives names (File path) bytes × IsWholeReport names bytes file

-- both, where buffers share bytes, and items are looked at as a share says
abbrev pub IsWholeLent : Option ℕ → Names → List ℕ → Lent → Type 0
IsWholeLent share names bytes file =
    IsWhole (said_by share) names bytes file.cause (lent_of file.imported) file.report

-- the same of the file at a path, which the source gives; it was asked for nothing but the file, and
-- then names of its buffers, none of them twice
pub record IsWholeLentOfFile {S : Type 0} (share : Option ℕ) (names : Names)
    (asks : S → Named → S → Type 0) (path : List ℕ) (file : Lent) (old new : S) : Type 0 where
  pub bytes : List ℕ
  pub gives : Gives names (File path) bytes
  pub whole : IsWholeLent share names bytes file
  pub asked : CanBeAsked names → AsksForFileOf asks path bytes old new
