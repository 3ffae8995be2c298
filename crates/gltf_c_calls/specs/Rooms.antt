-- What a call into a room answers, by what the file holds.
use Rattle.std.specs.Prelude.{◌≡◌, ◌⊎◌, ℕ, zero, suc, List, Option, Some, None}
use Rattle.std.specs.Str.{IsUtf8}
use Rattle.serde_json.specs.declared.value.Value.{Value}
use Rattle.gltf_json.specs.declared.root.Root.{Root}
use Rattle.gltf_data.specs.Documents.{accessor_at}
use Rattle.gltf_c_fault.specs.Json.{GivesJson}
use Rattle.gltf_c_fault.specs.declared.status.Status.{Status}
use Rattle.gltf_c_open.specs.declared.file.File.{File}
use Rattle.gltf_c_look.specs.Json.{extras_of, extension_of}
use Rattle.gltf_c_bytes.specs.Read.{IsRead}
use Rattle.gltf_c_handle.specs.Calls.{Answers, Fills, IsClosed}
use Rattle.gltf_c_calls.specs.Given.{IsGivenText, IsGivenTextOr, IsGivenList}

-- a text of the file in a room, and its length beside it
abbrev pub GivesText : (File → Option (List ℕ)) → Option File → ℕ → List ℕ → List ℕ → ℕ → ℕ
    → Type 0
GivesText asked = Fills (λ file. IsGivenText (asked file))

-- the same of a list
abbrev pub GivesList : {X : Type 0} → (File → Option (List X)) → Option File → ℕ → List X → List X
    → ℕ → ℕ → Type 0
GivesList asked = Fills (λ file. IsGivenList (asked file))

-- the same of a text that has to be made
abbrev pub GivesTextOr : (File → Option (List ℕ)) → Option File → ℕ → List ℕ → List ℕ → ℕ → ℕ
    → Type 0
GivesTextOr asked = Fills (λ file. IsGivenTextOr (asked file))

-- the items of the accessor at an index stand in the room
abbrev pub ReadsItems : ℕ → Option File → ℕ → List ℕ → List ℕ → Type 0
ReadsItems index None n old new = IsClosed n old new
ReadsItems index (Some file) n old new =
    Answers (λ status. IsRead file index (accessor_at file.document index) status old new) n

-- the extras of a record, or what it has of an extension by a name that is UTF-8
abbrev pub IsKept : ℕ → ℕ → ℕ → ℕ → List ℕ → Root → Option Value → Type 0
IsKept kind index part zero name r value = value ≡ extras_of kind index part r
IsKept kind index part (suc n) name r value =
    (IsUtf8 name × (value ≡ extension_of name kind index part r))
    ⊎ ((IsUtf8 name → ⊥) × (value ≡ None))

-- the JSON text of that is written
pub record IsJsonOf (kind index part by_name : ℕ) (name : List ℕ) (file : File) (status : Status)
    (old new : List ℕ) (old_length new_length : ℕ) : Type 0 where
  pub value : Option Value
  pub kept : IsKept kind index part by_name name file.document value
  pub given : GivesJson value status old new old_length new_length

abbrev pub ReadsJson : ℕ → ℕ → ℕ → ℕ → List ℕ → Option File → ℕ → List ℕ → List ℕ → ℕ → ℕ
    → Type 0
ReadsJson kind index part by_name name = Fills (IsJsonOf kind index part by_name name)
