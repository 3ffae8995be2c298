-- Which bytes are accepted where a document is mended, and what is wrong with the others. Container
-- and text are those of the bytes as they stand; the records are those of the mended value, and
-- rules and buffers are those of the document without the names that the caller handles.
use Rattle.std.specs.Prelude.{◌≡◌, ◌≢◌, ◌⊎◌, ⊤, ℕ, List, [], length, map, Option}
use Rattle.serde_json.specs.Data.{Data}
use Rattle.serde_json.specs.Errors.{IsMemory}
use Rattle.gltf_glb.specs.declared.error.Error.{Error}
use Rattle.gltf_glb.specs.declared.error.Error.TheVariants.{Deserialize}
use Rattle.gltf_json_record.specs.declared.error.Error as json
use Rattle.gltf_json_record.specs.declared.error.Error.TheVariants.{Text, Record, Memory}
use Rattle.gltf_json.specs.Documents.{root}
use Rattle.gltf_json.specs.Reading.{Reads}
use Rattle.gltf_json.specs.declared.root.Root.{Root}
use Rattle.gltf_validation.specs.Documents.{Faults}
use Rattle.gltf_buffers.specs.Buffers.{sources_of, AreBytes, HasBufferFault}
use Rattle.gltf_buffers.specs.Errors.{NamesFault}
use Rattle.gltf_buffers.specs.Names.{Names}
use Rattle.gltf.specs.Import.{AreParts, RefusesContainer}
use Rattle.gltf_options.specs.Besides.{IsBesides, required_of}
use Rattle.gltf_options.specs.Broken.{RefusesBesides}
use Rattle.gltf_options.specs.Names.{taken_of}
use Rattle.gltf_mend.specs.Mended.{mended}
use Rattle.gltf_mend.specs.declared.mends.Mends.{Mends}
use Rattle.gltf_lenient.specs.declared.options.Options.{Options}

-- the names that the caller handles
abbrev pub also_of : Options → List (List ℕ)
also_of options = map (λ k. k.now) options.also_supported.now

-- container and text hold, and r is the root of the text's value as it is mended
pub record IsMendedDocument (mends : Mends) (bytes : List ℕ) (r : Root)
    (blob : Option (List ℕ)) : Type 0 where
  pub text : List ℕ
  pub value : Data
  pub parts : AreParts bytes text blob
  pub reads : Reads text value
  pub records : root.is (mended mends value) r

-- r is that root without the names of the list, and `taken` are those that it had
pub record IsMendedBesides (options : Options) (bytes : List ℕ) (r : Root)
    (taken : List (List ℕ)) (blob : Option (List ℕ)) : Type 0 where
  pub whole : Root
  pub document : IsMendedDocument options.mends bytes whole blob
  pub besides : IsBesides (also_of options) whole r
  pub named : taken ≡ taken_of (also_of options) (required_of whole)

-- the rules of r hold too
pub record IsValidMended (options : Options) (bytes : List ℕ) (r : Root)
    (taken : List (List ℕ)) (blob : Option (List ℕ)) : Type 0 where
  pub document : IsMendedBesides options bytes r taken blob
  pub rules : Faults r ≡ []

-- all five layers hold: these are the bytes of the buffers of r
pub record AcceptsMended (options : Options) (names : Names) (bytes : List ℕ) (r : Root)
    (taken buffers : List (List ℕ)) : Type 0 where
  pub blob : Option (List ℕ)
  pub valid : IsValidMended options bytes r taken blob
  pub data_ : AreBytes names (sources_of r) blob (length (sources_of r)) buffers

-- the error says why the bytes are no text, or which fault stands in their mended value; out of
-- memory says nothing of them
abbrev pub RefusesValue : Mends → List ℕ → json.Error → Type 0
RefusesValue mends text (Text refused) = ¬ IsMemory refused × ((d : Data) → Reads text d → ⊥)
RefusesValue mends text (Record path fault) =
    (d : Data) × Reads text d × root.fault (mended mends d) path fault
RefusesValue mends text Memory = ⊤

-- the container holds; the error says why its text or the records of it do not
pub record RefusesMendedText (mends : Mends) (bytes : List ℕ) (e : Error) : Type 0 where
  pub text : List ℕ
  pub blob : Option (List ℕ)
  pub parts : AreParts bytes text blob
  pub cause : json.Error
  pub names : e ≡ Deserialize cause
  pub not_memory : cause ≢ Memory
  pub fails : RefusesValue mends text cause

-- the container does not hold, or the text or the records of it do not
abbrev pub RefusesMendedRecords : Mends → List ℕ → Error → Type 0
RefusesMendedRecords mends bytes e = RefusesContainer bytes e ⊎ RefusesMendedText mends bytes e

-- these hold; the error has all rules that are broken without the names of the list, at the places
-- of the mended value
pub record RefusesMendedRules (options : Options) (bytes : List ℕ) (e : Error) : Type 0 where
  pub whole : Root
  pub blob : Option (List ℕ)
  pub document : IsMendedDocument options.mends bytes whole blob
  pub fails : RefusesBesides (also_of options) whole e

-- the rules hold too; the error names the fault of the first buffer with one
pub record RefusesMendedBuffers (options : Options) (names : Names) (bytes : List ℕ)
    (e : Error) : Type 0 where
  pub root : Root
  pub taken : List (List ℕ)
  pub blob : Option (List ℕ)
  pub valid : IsValidMended options bytes root taken blob
  pub fails : NamesFault (HasBufferFault names (sources_of root) blob) e

-- container, text or records do not hold, or the rules do not without these names
abbrev pub RefusesMended : Options → List ℕ → Error → Type 0
RefusesMended options bytes e =
    RefusesMendedRecords options.mends bytes e ⊎ RefusesMendedRules options bytes e

-- one of these does not hold, or the buffers do not
abbrev pub RefusesMendedImport : Options → Names → List ℕ → Error → Type 0
RefusesMendedImport options names bytes e =
    RefusesMended options bytes e ⊎ RefusesMendedBuffers options names bytes e

-- of no other root can these bytes be the mended document, but for how it lies in memory, and with
-- no other blob
abbrev pub IsOnlyMendedDocument : Mends → List ℕ → Root → Option (List ℕ) → Type 0
IsOnlyMendedDocument mends bytes r blob =
    (s : Root) (other : Option (List ℕ)) → IsMendedDocument mends bytes s other
    → (root.content s ≡ root.content r) × (other ≡ blob)

abbrev pub IsNoMendedDocument : Mends → List ℕ → Type 0
IsNoMendedDocument mends bytes =
    (s : Root) (blob : Option (List ℕ)) → IsMendedDocument mends bytes s blob → ⊥

-- the same of the document without the names that the caller handles, and of these names
abbrev pub IsOnlyMended : Options → List ℕ → Root → List (List ℕ) → Option (List ℕ) → Type 0
IsOnlyMended options bytes r taken blob =
    (s : Root) (others : List (List ℕ)) (rest : Option (List ℕ))
    → IsMendedBesides options bytes s others rest
    → (root.content s ≡ root.content r) × (others ≡ taken) × (rest ≡ blob)

abbrev pub IsNoValidMended : Options → List ℕ → Type 0
IsNoValidMended options bytes =
    (s : Root) (taken : List (List ℕ)) (blob : Option (List ℕ))
    → IsValidMended options bytes s taken blob → ⊥

-- the same of the root, the names and the bytes of the buffers
abbrev pub IsOnlyMendedImport : Options → Names → List ℕ → Root → List (List ℕ) → List (List ℕ)
    → Type 0
IsOnlyMendedImport options names bytes r taken buffers =
    (s : Root) (others data_ : List (List ℕ)) → AcceptsMended options names bytes s others data_
    → (root.content s ≡ root.content r) × (others ≡ taken) × (data_ ≡ buffers)

abbrev pub IsNotAcceptedMended : Options → Names → List ℕ → Type 0
IsNotAcceptedMended options names bytes =
    (s : Root) (taken buffers : List (List ℕ))
    → AcceptsMended options names bytes s taken buffers → ⊥
