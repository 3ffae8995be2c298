-- Buffers that have their bytes, and buffers that wait for them, since their URI leads to another
-- file (glTF 2.0, section 3.6.1).
use Rattle.std.specs.Prelude.{◌≡◌, ◌<◌, ⊤, ℕ, Bool, true, false, List, [], length, get_or}
use Rattle.std.specs.Prelude.{slice_get, Option, Some, None, Result, Ok, Err, if◌then◌else◌}
use Rattle.gltf_buffers.specs.Buffers.{Source, BufferFault, External, TooShort}
use Rattle.gltf_buffers.specs.Buffers.{blob_for, raw_bytes}
use Rattle.gltf_buffers.specs.Padding.{padded}
use Rattle.gltf_c_open.specs.Lengths.{is_enough}
use Rattle.gltf_c_open.specs.declared.wanted.Wanted.{Wanted}

-- the bytes with zeros after them up to a multiple of four, where there are enough for what buffer
-- i declares. Else the fault has the number of the bytes themselves
abbrev pub long_enough : Bool → ℕ → ℕ → List ℕ → Result (List ℕ) BufferFault
long_enough exact i declared bytes =
    if is_enough exact declared (length bytes) then Ok (padded bytes)
    else Err (TooShort i declared (length bytes))

abbrev pub judged : Bool → ℕ → ℕ → Result (List ℕ) BufferFault → Result (List ℕ) BufferFault
judged exact i declared (Ok bytes) = long_enough exact i declared bytes
judged exact i declared (Err fault) = Err fault

-- the bytes of buffer i with zeros after them, or what is wrong with it. No name can be asked for
abbrev pub bytes_or_fault : Bool → Option (List ℕ) → ℕ → Source → Result (List ℕ) BufferFault
bytes_or_fault exact blob i source =
    judged exact i source.declared (raw_bytes None blob source.uri)

-- what is kept of a buffer: its bytes; or none, and it waits, where it leads to another file and
-- may wait
abbrev pub IsKept : Bool → Result (List ℕ) BufferFault → List ℕ → Bool → Type 0
IsKept may_wait (Ok bytes) data_ waits = (data_ ≡ bytes) × (waits ≡ false)
IsKept may_wait (Err External) data_ waits = (may_wait ≡ true) × (data_ ≡ []) × (waits ≡ true)
IsKept may_wait (Err other) data_ waits = ⊥

-- each fault refuses a file, but that a buffer leads to another file where it may wait
abbrev pub Refuses : Bool → BufferFault → Type 0
Refuses may_wait External = may_wait ≡ false
Refuses may_wait other = ⊤

-- a fault of buffer i that refuses the file
abbrev pub IsFaultOf : Wanted → Option (List ℕ) → ℕ → Source → BufferFault → Type 0
IsFaultOf wanted blob i source fault =
    (bytes_or_fault wanted.exact blob i source ≡ Err fault) × Refuses wanted.may_wait fault

-- each of the first n buffers has these bytes, or waits for them
pub record HaveOrAwait (wanted : Wanted) (sources : List Source) (blob : Option (List ℕ)) (n : ℕ)
    (buffers : List (List ℕ)) (waiting : List Bool) : Type 0 where
  pub count : length buffers ≡ n
  pub as_many : length waiting ≡ n
  pub each : (i : ℕ) (source : Source) → i < n → slice_get sources i ≡ Some source
      → IsKept wanted.may_wait (bytes_or_fault wanted.exact (blob_for sources blob i) i source)
      (get_or buffers i []) (get_or waiting i false)

-- this is the fault of the buffer at an index, the first that has one which refuses the file
pub record HasFault (wanted : Wanted) (sources : List Source) (blob : Option (List ℕ)) (index : ℕ)
    (fault : BufferFault) : Type 0 where
  pub before : List (List ℕ)
  pub waiting : List Bool
  pub fine : HaveOrAwait wanted sources blob index before waiting
  pub source : Source
  pub there : slice_get sources index ≡ Some source
  pub wrong : IsFaultOf wanted (blob_for sources blob index) index source fault
