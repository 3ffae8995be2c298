-- What a call from C answers, by what the file holds: `None` is a closed one. A status is the
-- number that C sees.
use Rattle.std.specs.Prelude.{◌≡◌, ℕ, List, Option, Some, None, Result}
use Rattle.gltf_json.specs.declared.root.Root.{Root}
use Rattle.gltf_c_extensions.specs.declared.reading.Missing.{Missing}
use Rattle.gltf_c_fault.specs.Status.{code}
use Rattle.gltf_c_fault.specs.declared.status.Status.{Status}
use Rattle.gltf_c_fault.specs.declared.status.Status.TheVariants.{Closed}
use Rattle.gltf_c_open.specs.declared.file.File.{File}
use Rattle.gltf_c_handle.specs.Given.{IsGiven, IsGivenRead}

-- what is asked of the document of a file
abbrev pub shown : {X : Type 0} → (Root → Option X) → File → Option X
shown asked file = asked file.document

-- what is said of an answer that is read from the document of a file
abbrev pub said : {X : Type 0} → (Root → Result X Missing → Type 0) → File → Result X Missing
    → Type 0
said answers file = answers file.document

-- a closed file says so, and nothing is written
abbrev pub IsClosed : {X : Type 0} → ℕ → X → X → Type 0
IsClosed status old new = (status ≡ code Closed) × (new ≡ old)

-- of an open one the status is the number of one by which P holds
pub record Answers (P : Status → Type 0) (number : ℕ) : Type 0 where
  pub status : Status
  pub names : number ≡ code status
  pub holds : P status

-- what is asked for of the file is written, where it is there
abbrev pub Gives : {X : Type 0} → (File → Option X) → Option File → ℕ → X → X → Type 0
Gives asked None n old new = IsClosed n old new
Gives asked (Some file) n old new = Answers (λ status. IsGiven (asked file) status old new) n

-- what is read of the file is written; else the status says why there is nothing
abbrev pub GivesRead : {X : Type 0} → (File → Result X Missing → Type 0) → Option File → ℕ → X → X
    → Type 0
GivesRead answers None n old new = IsClosed n old new
GivesRead answers (Some file) n old new =
    Answers (λ status. IsGivenRead (answers file) status old new) n

-- what a call into a room writes there, and beside it: what is said of the file
abbrev pub Fills : {X Y : Type 0} → (File → Status → List X → List X → Y → Y → Type 0)
    → Option File → ℕ → List X → List X → Y → Y → Type 0
Fills filled None n old new old_length new_length =
    IsClosed n old new × (new_length ≡ old_length)
Fills filled (Some file) n old new old_length new_length =
    Answers (λ status. filled file status old new old_length new_length) n
