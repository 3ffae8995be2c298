-- What a call writes of what it is asked for.
use Rattle.std.specs.Prelude.{◌≡◌, Bool, true, false, Option, Some, None, Result, Ok, Err}
use Rattle.gltf_c_extensions.specs.declared.reading.Missing.{Missing}
use Rattle.gltf_c_extensions.specs.declared.reading.Missing.TheVariants.{Absent, Bad, Memory}
use Rattle.gltf_c_fault.specs.declared.status.Status.{Status}
use Rattle.gltf_c_fault.specs.declared.status.Status.TheVariants.{Success, NoSuchIndex}
use Rattle.gltf_c_fault.specs.declared.status.Status.TheVariants.{NoMemory, BadExtension}

-- what is there is written, else nothing is
abbrev pub IsGiven : {X : Type 0} → Option X → Status → X → X → Type 0
IsGiven None status old new = (status ≡ NoSuchIndex) × (new ≡ old)
IsGiven (Some x) status old new = (status ≡ Success) × (new ≡ x)

-- the status of what was written, or is not there
abbrev pub status_of : Bool → Status
status_of true = Success
status_of false = NoSuchIndex

-- the status of what was not read
abbrev pub missing_status : Missing → Status
missing_status Absent = NoSuchIndex
missing_status Bad = BadExtension
missing_status Memory = NoMemory

-- what was read is written; else nothing is, and the status says why
abbrev pub IsGivenOr : {X : Type 0} → Result X Missing → Status → X → X → Type 0
IsGivenOr (Ok x) status old new = (status ≡ Success) × (new ≡ x)
IsGivenOr (Err why) status old new = (status ≡ missing_status why) × (new ≡ old)

-- the same of an answer of which P is said
abbrev pub IsGivenRead : {X : Type 0} → (Result X Missing → Type 0) → Status → X → X → Type 0
IsGivenRead {X} P status old new =
    (read : Result X Missing) × P read × IsGivenOr read status old new
