-- Which bytes are accepted where some of the extensions that a document requires pass, and what is
-- wrong with the others. The layers are those of `gltf`: container and text of the bytes as they
-- stand; then the records of the value as it is read; then the rules of what is left without these
-- names; then the buffers.
use Rattle.std.specs.Prelude.{◌≡◌, ◌≢◌, ◌⊎◌, ⊤, ℕ, List, [], length, Option}
use Rattle.serde_json.specs.Data.{Data}
use Rattle.serde_json.specs.Errors.{IsMemory}
use Rattle.gltf_glb.specs.declared.error.Error.{Error}
use Rattle.gltf_glb.specs.declared.error.Error.TheVariants.{Deserialize}
use Rattle.gltf_json_record.specs.declared.error.Error as json
use Rattle.gltf_json_record.specs.declared.error.Error.TheVariants.{Text, Record, Memory}
use Rattle.gltf_json.specs.Documents.{root}
use Rattle.gltf_json.specs.Reading.{Reads}
use Rattle.gltf_json.specs.declared.root.Root.{Root}
use Rattle.gltf_mend.specs.declared.mends.Mends.{Mends}
use Rattle.gltf_validation.specs.Documents.{Faults}
use Rattle.gltf_buffers.specs.Buffers.{sources_of, AreBytes, HasBufferFault}
use Rattle.gltf_buffers.specs.Errors.{NamesFault}
use Rattle.gltf_buffers.specs.Names.{Names}
use Rattle.gltf.specs.Import.{AreParts, RefusesContainer}
use Rattle.gltf_required.specs.Required.{IsLeft, TellsAs, as_read, mended_by, mends_of}
use Rattle.gltf_required.specs.declared.required.Required.{Required}

-- container and text hold, and r is the root of the text's value as it is read
pub record IsDocumentAs (required : Required) (bytes : List ℕ) (r : Root)
    (blob : Option (List ℕ)) : Type 0 where
  pub text : List ℕ
  pub value : Data
  pub parts : AreParts bytes text blob
  pub reads : Reads text value
  pub records : root.is (as_read required value) r

-- container, text and records hold: r is the root, and these are the bytes of its buffers. Its
-- rules are not looked at
pub record IsRead (required : Required) (names : Names) (bytes : List ℕ) (r : Root)
    (buffers : List (List ℕ)) : Type 0 where
  pub blob : Option (List ℕ)
  pub document : IsDocumentAs required bytes r blob
  pub data_ : AreBytes names (sources_of r) blob (length (sources_of r)) buffers

-- container, text and records hold: r is the root, blob the binary buffer, and the rules of what is
-- left of r hold
pub record IsValidAs (required : Required) (bytes : List ℕ) (r : Root) (blob : Option (List ℕ))
    : Type 0 where
  pub document : IsDocumentAs required bytes r blob
  pub left : Root
  pub is_left : IsLeft required r left
  pub rules : Faults left ≡ []

-- this is what is left
pub record IsOpenedAs (required : Required) (bytes : List ℕ) (left : Root)
    (blob : Option (List ℕ)) : Type 0 where
  pub root : Root
  pub document : IsDocumentAs required bytes root blob
  pub is_left : IsLeft required root left
  pub rules : Faults left ≡ []

-- all five layers hold: r is the root, and these are the bytes of its buffers
pub record AcceptsAs (required : Required) (names : Names) (bytes : List ℕ) (r : Root)
    (buffers : List (List ℕ)) : Type 0 where
  pub blob : Option (List ℕ)
  pub valid : IsValidAs required bytes r blob
  pub data_ : AreBytes names (sources_of r) blob (length (sources_of r)) buffers

-- the error says why the bytes are no text, or which fault stands in the value with these mends;
-- out of memory says nothing of them
abbrev pub RefusesMendedBy : Option Mends → List ℕ → json.Error → Type 0
RefusesMendedBy mends text (Text refused) = ¬ IsMemory refused × ((d : Data) → Reads text d → ⊥)
RefusesMendedBy mends text (Record path fault) =
    (d : Data) × Reads text d × root.fault (mended_by mends d) path fault
RefusesMendedBy mends text Memory = ⊤

-- in the value as it is read
abbrev pub RefusesValueAs : Required → List ℕ → json.Error → Type 0
RefusesValueAs required text cause = RefusesMendedBy (mends_of required) text cause

-- the container holds; the error says why its text or the records of it do not
pub record RefusesTextAs (required : Required) (bytes : List ℕ) (e : Error) : Type 0 where
  pub text : List ℕ
  pub blob : Option (List ℕ)
  pub parts : AreParts bytes text blob
  pub cause : json.Error
  pub names : e ≡ Deserialize cause
  pub not_memory : cause ≢ Memory
  pub fails : RefusesValueAs required text cause

-- container, text and records hold; the error has all rules that what is left breaks
pub record RefusesRulesAs (required : Required) (bytes : List ℕ) (e : Error) : Type 0 where
  pub root : Root
  pub blob : Option (List ℕ)
  pub document : IsDocumentAs required bytes root blob
  pub fails : TellsAs required root e

-- the rules hold too; the error names the fault of the first buffer with one
pub record RefusesBuffersAs (required : Required) (names : Names) (bytes : List ℕ) (e : Error)
    : Type 0 where
  pub root : Root
  pub blob : Option (List ℕ)
  pub valid : IsValidAs required bytes root blob
  pub fails : NamesFault (HasBufferFault names (sources_of root) blob) e

-- the container does not hold, or the text or the records of it do not
abbrev pub RefusesRecordsAs : Required → List ℕ → Error → Type 0
RefusesRecordsAs required bytes e = RefusesContainer bytes e ⊎ RefusesTextAs required bytes e

-- one of these does not hold, or the rules do not
abbrev pub RefusesDocumentAs : Required → List ℕ → Error → Type 0
RefusesDocumentAs required bytes e =
    RefusesRecordsAs required bytes e ⊎ RefusesRulesAs required bytes e

-- one of these does not hold, or the buffers do not
abbrev pub RefusesImportAs : Required → Names → List ℕ → Error → Type 0
RefusesImportAs required names bytes e =
    RefusesDocumentAs required bytes e ⊎ RefusesBuffersAs required names bytes e
