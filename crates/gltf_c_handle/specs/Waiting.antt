-- Bytes for buffers that wait for them, as C sees it (glTF 2.0, section 3.6.1).
use Rattle.std.specs.Prelude.{◌≡◌, ℕ, List, Option, Some, None, Result, Ok, Err}
use Rattle.gltf_c_fault.specs.Status.{code}
use Rattle.gltf_c_fault.specs.declared.status.Status.TheVariants.{Success, NoMemory, Closed}
use Rattle.gltf_c_fault.specs.declared.status.Status.TheVariants.{NoSuchIndex, ShortBuffer}
use Rattle.gltf_c_open.specs.Given.{IsGiven, awaited_length}
use Rattle.gltf_c_open.specs.declared.file.File.{File}
use Rattle.gltf_c_open.specs.declared.given.GiveError.{GiveError}
use Rattle.gltf_c_open.specs.declared.given.GiveError.TheVariants.{NotAwaited, TooShort, Memory}

-- the number of what came of bytes for a buffer
abbrev pub given_number : Result (Unit {0}) GiveError → ℕ
given_number (Ok done) = code Success
given_number (Err NotAwaited) = code NoSuchIndex
given_number (Err TooShort) = code ShortBuffer
given_number (Err Memory) = code NoMemory

-- what came of bytes for a buffer of an open file
pub record IsTaken (index : ℕ) (bytes : List ℕ) (number : ℕ) (old new : File) : Type 0 where
  pub result : Result (Unit {0}) GiveError
  pub number_is : number ≡ given_number result
  pub given : IsGiven (awaited_length index old) index bytes result old new

-- a closed file stays closed, an open one open
abbrev pub IsGivenBytes : ℕ → List ℕ → ℕ → Option File → Option File → Type 0
IsGivenBytes index bytes number None new = (number ≡ code Closed) × (new ≡ None)
IsGivenBytes index bytes number (Some old) None = ⊥
IsGivenBytes index bytes number (Some old) (Some new) = IsTaken index bytes number old new
