-- The report of a file: what is found in it where it is accepted, and where it is refused. Five
-- layers decide, one after the other, as for the loader: the container (glTF 2.0, section 4.4),
-- the JSON text (section 2.7), the records (section 5), the rules between them (sections 3 and 5)
-- and the buffers (section 3.6.1).
use Rattle.std.specs.Prelude.{◌≡◌, ◌≢◌, ◌++◌, ◌⊎◌, ℕ, List, [], ◌∷◌, length, slice_get}
use Rattle.std.specs.Prelude.{Option, Some, MatchOption, option_map, Result, Vec, true}
use Rattle.std.specs.declared.alloc.Global.{Global}
use Rattle.std.specs.declared.rc.Rc.{Rc}
use Rattle.gltf_buffers.specs.declared.data.Data.{Data}
use Rattle.std.specs.List.{AllByRecursion}
use Rattle.gltf_json.specs.declared.root.Root.{Root}
use Rattle.gltf_json_record.specs.Place.{Place, named}
use Rattle.gltf_json_record.specs.declared.error.Error.TheVariants.{Record}
use Rattle.gltf_json_record.specs.declared.error.RecordFault.TheVariants.{MissingMember}
use Rattle.gltf_glb.specs.declared.error.Error.{Error}
use Rattle.gltf_glb.specs.declared.error.Error.TheVariants.{Binary, Deserialize}
use Rattle.gltf_buffers.specs.Buffers.{sources_of}
use Rattle.gltf_buffers.specs.Each.{AreAnswers}
use Rattle.gltf_buffers.specs.Names.{Names}
use Rattle.gltf_validation.specs.Documents.{Faults}
use Rattle.gltf.specs.Import.{IsDocument, IsValidDocument, AcceptsWith, IsOnlyDocument}
use Rattle.gltf.specs.Import.{IsNoDocument, RefusesRecords}
use Rattle.gltf.specs.Shown.{bytes_of_each}
use Rattle.gltf_shared.specs.Shown.{bytes_of_each as shared_bytes}
use Rattle.gltf_findings.specs.declared.code.Code.{Code}
use Rattle.gltf_findings.specs.declared.code.Code.TheVariants.{NeededByReader}
use Rattle.gltf_findings.specs.Checks.{Checks, ◌&◌, findings_of}
use Rattle.gltf_inspect.specs.Documents.{root_checks}
use Rattle.gltf_inspect.specs.Refusals.{last_of}
use Rattle.gltf_inspect_items.specs.Documents.{items_checks}
use Rattle.gltf_inspect_items.specs.Reading.{Bytes}
use Rattle.gltf_inspect_values.specs.Documents.{values_checks}
use Rattle.gltf_inspect_files.specs.Buffers.{buffers_findings, SaysSomething}
use Rattle.gltf_inspect_files.specs.Containers.{container_code}
use Rattle.gltf_inspect_files.specs.Texts.{text_findings, is_needed_here}

abbrev pub Found : Type 0
Found = List (List Place × Code)

-- what is found in the records of a document
abbrev pub records_findings : Root → Found
records_findings r = findings_of [] (root_checks r)

-- the checks of the items of a document, and of the values of its accessors
abbrev pub contents_checks : Root → Bytes → Checks
contents_checks r bytes = items_checks r bytes & values_checks r bytes

-- what is found in a document and in its items, over these bytes of its buffers
abbrev pub document_findings : Root → List (List ℕ) → Found
document_findings r buffers =
    records_findings r ++ findings_of [] (contents_checks r (slice_get buffers))

-- what is found in bytes that are no document, by the loader's error: the fault of the container,
-- of the text or of a record. For no other cause are bytes no document.
abbrev pub error_findings : List ℕ → Error → Found
error_findings bytes (Binary cause) = ([], container_code bytes cause) ∷ []
error_findings bytes (Deserialize cause) = text_findings cause
error_findings bytes _ = []

-- the container does not hold, or the text or the records in it do not, for this cause
pub record IsOfNoDocument (bytes : List ℕ) (cause : Error) (found : Found) : Type 0 where
  pub refused : RefusesRecords bytes cause
  pub none : IsNoDocument bytes
  pub same : found ≡ error_findings bytes cause

-- the rules do not hold: all of those that are broken, and whatever else is found in the records
pub record IsOfBrokenRules (bytes : List ℕ) (found : Found) : Type 0 where
  pub root : Root
  pub blob : Option (List ℕ)
  pub document : IsDocument bytes root blob
  pub only : IsOnlyDocument bytes root blob
  pub broken : Faults root ≢ []
  pub same : found ≡ records_findings root

-- the buffers do not hold: the fault of each that has one, and whatever is found in the records
pub record IsOfBuffers (names : Names) (bytes : List ℕ) (found : Found) : Type 0 where
  pub root : Root
  pub blob : Option (List ℕ)
  pub valid : IsValidDocument bytes root blob
  pub only : IsOnlyDocument bytes root blob
  pub answers : List (Result (List ℕ) Error)
  pub each : AreAnswers names (sources_of root) blob (length (sources_of root)) answers
  pub told : AllByRecursion SaysSomething answers
  pub some : buffers_findings 0 answers ≢ []
  pub same : found ≡ buffers_findings 0 answers ++ records_findings root

-- there is a cause why the bytes are no document; or the rules of the document do not hold, or its
-- buffers
abbrev pub IsOfRefused : Names → List ℕ → Option Error → Found → Type 0
IsOfRefused names bytes cause found =
    MatchOption cause (IsOfBrokenRules bytes found ⊎ IsOfBuffers names bytes found)
    (λ e. IsOfNoDocument bytes e found)

-- the one thing that is found is a member that the standard lets be absent and that this reader
-- needs: the bytes are no document, since a record does not have it
pub record IsOfNeededMember (cause : Option Error) (found : Found) : Type 0 where
  pub path : List Place
  pub absent : cause ≡ Some (Deserialize (Record path MissingMember))
  pub needed : is_needed_here (last_of (named []) path) ≡ true
  pub same : found ≡ (path, NeededByReader) ∷ []

-- all five layers hold of this root with these bytes of its buffers
pub record IsOfAccepted (names : Names) (bytes : List ℕ) (root : Root) (buffers : List (List ℕ))
    (found : Found) : Type 0 where
  pub accepted : AcceptsWith names bytes root buffers
  pub same : found ≡ document_findings root buffers

-- what is said of a file that is accepted: by its bytes, its root, and the bytes of its buffers
abbrev pub Said : Type 1
Said = Names → List ℕ → Root → List (List ℕ) → Found → Type 0

-- what is known of a file that was looked at, by the cause why it is no document, and by what is
-- imported where it is accepted
abbrev pub IsFound : Said → Names → List ℕ → Option Error → Option (Root × List (List ℕ)) → Found
    → Type 0
IsFound IsSaid names bytes cause imported found =
    MatchOption imported (IsOfRefused names bytes cause found)
    (λ read. IsSaid names bytes read.0 read.1 found)

-- what is imported, by the bytes of its buffers
abbrev pub imported_of : Option (Root × Vec Data Global) → Option (Root × List (List ℕ))
imported_of = option_map (λ read. (read.0, bytes_of_each read.1.items))

-- the same of buffers that share bytes
abbrev pub lent_of : Option (Root × Vec (Rc Data Global) Global) → Option (Root × List (List ℕ))
lent_of = option_map (λ read. (read.0, shared_bytes read.1.items))
