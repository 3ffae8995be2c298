-- Which bytes are accepted, and what is wrong with the others. Five layers decide, one after the
-- other: the container (glTF 2.0, section 4.4), the JSON text (section 2.7), the records (section
-- 5), the rules between them (sections 3 and 5) and the buffers (section 3.6.1).
use Rattle.std.specs.Prelude.{◌≡◌, ◌≢◌, ◌⊎◌, ℕ, List, [], length, true, nat_eq, MatchBool, Option}
use Rattle.std.specs.Prelude.{None, Err}
use Rattle.std.specs.List.{starts_with}
use Rattle.serde_json.specs.Data.{Data}
use Rattle.gltf_glb.specs.Bytes.{magic}
use Rattle.gltf_glb.specs.Container.{IsContainer}
use Rattle.gltf_glb.specs.Reading.{IsReadingOf}
use Rattle.gltf_glb.specs.Steps.{fault_of}
use Rattle.gltf_glb.specs.declared.binary.Error as binary
use Rattle.gltf_glb.specs.declared.error.Error.{Error}
use Rattle.gltf_glb.specs.declared.error.Error.TheVariants.{Binary, Deserialize}
use Rattle.gltf_json_record.specs.declared.error.Error as json
use Rattle.gltf_json_record.specs.declared.error.Error.TheVariants.{Memory as TextMemory}
use Rattle.gltf_json.specs.Documents.{root}
use Rattle.gltf_json.specs.Reading.{Reads, Refuses}
use Rattle.gltf_json.specs.declared.root.Root.{Root}
use Rattle.gltf_validation.specs.Documents.{Faults}
use Rattle.gltf_buffers.specs.Buffers.{sources_of, AreBytes, HasBufferFault}
use Rattle.gltf_buffers.specs.Errors.{NamesFault}
use Rattle.gltf_buffers.specs.Names.{Names, Nowhere}
use Rattle.gltf.specs.Errors.{TellsRules}

-- the JSON text and the blob: those of a container where the bytes begin with `glTF`, else all
-- bytes and none
unfoldable pub AreParts : List ℕ → List ℕ → Option (List ℕ) → Type 0
AreParts bytes text blob = MatchBool (starts_with nat_eq bytes magic) (IsContainer bytes text blob)
    ((text ≡ bytes) × (blob ≡ None))

-- container, text and records hold: r is the root, and blob the binary buffer
pub record IsDocument (bytes : List ℕ) (r : Root) (blob : Option (List ℕ)) : Type 0 where
  pub text : List ℕ
  pub value : Data
  pub parts : AreParts bytes text blob
  pub reads : Reads text value
  pub records : root.is value r

-- container, text, records and rules hold
pub record IsValidDocument (bytes : List ℕ) (r : Root) (blob : Option (List ℕ)) : Type 0 where
  pub document : IsDocument bytes r blob
  pub rules : Faults r ≡ []

-- all five layers hold: r is the root, and these are the bytes of its buffers
pub record AcceptsWith (names : Names) (bytes : List ℕ) (r : Root) (buffers : List (List ℕ))
    : Type 0 where
  pub blob : Option (List ℕ)
  pub valid : IsValidDocument bytes r blob
  pub data_ : AreBytes names (sources_of r) blob (length (sources_of r)) buffers

-- the same where no name can be asked for
abbrev pub Accepts : List ℕ → Root → List (List ℕ) → Type 0
Accepts bytes r buffers = AcceptsWith Nowhere bytes r buffers

-- the bytes begin with `glTF` and are no container; the error names their one fault
pub record RefusesContainer (bytes : List ℕ) (e : Error) : Type 0 where
  pub cause : binary.Error
  pub names : e ≡ Binary cause
  pub begins : starts_with nat_eq bytes magic ≡ true
  pub fault : IsReadingOf bytes (Err (fault_of cause))

-- the container holds; the error says why its text or the records in it do not
pub record RefusesText (bytes : List ℕ) (e : Error) : Type 0 where
  pub text : List ℕ
  pub blob : Option (List ℕ)
  pub parts : AreParts bytes text blob
  pub cause : json.Error
  pub names : e ≡ Deserialize cause
  pub not_memory : cause ≢ TextMemory
  pub fails : Refuses text cause

-- container, text and records hold; the error has all broken rules
pub record RefusesRules (bytes : List ℕ) (e : Error) : Type 0 where
  pub root : Root
  pub blob : Option (List ℕ)
  pub document : IsDocument bytes root blob
  pub fails : TellsRules root e

-- container, text, records and rules hold; the error names the fault of the first buffer with one
pub record RefusesBuffersWith (names : Names) (bytes : List ℕ) (e : Error) : Type 0 where
  pub root : Root
  pub blob : Option (List ℕ)
  pub valid : IsValidDocument bytes root blob
  pub fails : NamesFault (HasBufferFault names (sources_of root) blob) e

-- the same where no name can be asked for
abbrev pub RefusesBuffers : List ℕ → Error → Type 0
RefusesBuffers bytes e = RefusesBuffersWith Nowhere bytes e

-- the container does not hold, or the text or the records in it do not
abbrev pub RefusesRecords : List ℕ → Error → Type 0
RefusesRecords bytes e = RefusesContainer bytes e ⊎ RefusesText bytes e

-- one of these does not hold, or the rules do not
abbrev pub RefusesDocument : List ℕ → Error → Type 0
RefusesDocument bytes e = RefusesRecords bytes e ⊎ RefusesRules bytes e

-- one of these does not hold, or the buffers do not
abbrev pub RefusesImportWith : Names → List ℕ → Error → Type 0
RefusesImportWith names bytes e = RefusesDocument bytes e ⊎ RefusesBuffersWith names bytes e

-- the same where no name can be asked for
abbrev pub RefusesImport : List ℕ → Error → Type 0
RefusesImport bytes e = RefusesImportWith Nowhere bytes e

-- of no other root can these bytes be the document, but for how it lies in memory, and of no other
-- blob
abbrev pub IsOnlyDocument : List ℕ → Root → Option (List ℕ) → Type 0
IsOnlyDocument bytes r blob = (s : Root) (other : Option (List ℕ)) → IsDocument bytes s other
    → (root.content s ≡ root.content r) × (other ≡ blob)

-- the same of the root and the bytes of its buffers
abbrev pub IsOnlyImportWith : Names → List ℕ → Root → List (List ℕ) → Type 0
IsOnlyImportWith names bytes r buffers =
    (s : Root) (others : List (List ℕ)) → AcceptsWith names bytes s others
    → (root.content s ≡ root.content r) × (others ≡ buffers)

abbrev pub IsOnlyImport : List ℕ → Root → List (List ℕ) → Type 0
IsOnlyImport bytes r buffers = IsOnlyImportWith Nowhere bytes r buffers

abbrev pub IsNoDocument : List ℕ → Type 0
IsNoDocument bytes = (s : Root) (blob : Option (List ℕ)) → IsDocument bytes s blob → ⊥

abbrev pub IsNoValidDocument : List ℕ → Type 0
IsNoValidDocument bytes = (s : Root) (blob : Option (List ℕ)) → IsValidDocument bytes s blob → ⊥

abbrev pub IsNotAcceptedWith : Names → List ℕ → Type 0
IsNotAcceptedWith names bytes =
    (s : Root) (buffers : List (List ℕ)) → AcceptsWith names bytes s buffers → ⊥

abbrev pub IsNotAccepted : List ℕ → Type 0
IsNotAccepted bytes = IsNotAcceptedWith Nowhere bytes
