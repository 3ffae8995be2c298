-- What bytes are read as: the parts of a container, or a fault.
use Rattle.std.specs.Prelude.{◌≡◌, ℕ, List, ◌++◌, Option, Result, Ok, Err}
use Rattle.gltf_glb.specs.Faults.{Fault}
use Rattle.gltf_glb.specs.Container.{IsContainer, HasFault, HasReaderFault}

-- JSON and, where there is one, the binary buffer; or what is wrong
abbrev pub Reading : Type 0
Reading = Result (List ℕ × Option (List ℕ)) Fault

abbrev pub HasReading : List ℕ → Reading → Type 0
HasReading bytes (Ok parts) = IsContainer bytes parts.0 parts.1
HasReading bytes (Err fault) = HasFault bytes fault

-- the one reading that the bytes have
pub record IsReadingOf (bytes : List ℕ) (reading : Reading) : Type 0 where
  pub has : HasReading bytes reading
  pub only : (other : Reading) → HasReading bytes other → other ≡ reading

-- the same of bytes that come from a reader
abbrev pub HasReaderReading : List ℕ → Reading → Type 0
HasReaderReading bytes (Ok parts) = IsContainer bytes parts.0 parts.1
HasReaderReading bytes (Err fault) = HasReaderFault bytes fault

pub record IsReaderReadingOf (bytes : List ℕ) (reading : Reading) : Type 0 where
  pub has : HasReaderReading bytes reading
  pub only : (other : Reading) → HasReaderReading bytes other → other ≡ reading

-- whatever follows these bytes, this is the reading
abbrev pub Decides : List ℕ → Reading → Type 0
Decides came reading = (rest : List ℕ) → IsReaderReadingOf (came ++ rest) reading
