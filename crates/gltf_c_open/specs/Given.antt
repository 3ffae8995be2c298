-- Bytes for a buffer that waits for them (glTF 2.0, section 3.6.1).
use Rattle.std.specs.Prelude.{◌≡◌, ℕ, Bool, true, false, List, set, length, slice_get}
use Rattle.std.specs.Prelude.{Option, Some, None, Result, Ok, Err}
use Rattle.std.specs.Option.{option_map}
use Rattle.gltf_json.specs.declared.root.Root.{Root}
use Rattle.gltf_buffers.specs.Padding.{padded}
use Rattle.gltf_buffers.specs.Shown.{bytes_of_each}
use Rattle.gltf_c_open.specs.Lengths.{is_enough}
use Rattle.gltf_c_open.specs.declared.file.File.{File}
use Rattle.gltf_c_open.specs.declared.given.GiveError.{GiveError}
use Rattle.gltf_c_open.specs.declared.given.GiveError.TheVariants.{NotAwaited, TooShort, Memory}

-- how many bytes the buffer at an index declares
abbrev pub declared_length : ℕ → Root → Option ℕ
declared_length index r =
    option_map (λ buffer. buffer.byte_length) (slice_get r.buffers.items index)

abbrev pub if_waiting : Option Bool → Option ℕ → Option ℕ
if_waiting (Some true) declared = declared
if_waiting (Some false) declared = None
if_waiting None declared = None

-- how many bytes the buffer at an index declares that waits for them; none where it does not wait
abbrev pub awaited_length : ℕ → File → Option ℕ
awaited_length index file =
    if_waiting (slice_get file.waiting.items index) (declared_length index file.document)

-- the buffer at an index has these bytes now, with zeros after them up to a multiple of four, and
-- waits no more; nothing else has changed
pub record HasNow (index : ℕ) (bytes : List ℕ) (old new : File) : Type 0 where
  pub document_is : new.document ≡ old.document
  pub buffers_are :
      bytes_of_each new.buffers.items ≡ set (bytes_of_each old.buffers.items) index (padded bytes)
  pub waiting_are : new.waiting.items ≡ set old.waiting.items index false
  pub lengths_are : new.exact ≡ old.exact

-- what came of bytes for a buffer that waits, by whether they are as many as the file was opened to
-- ask for
abbrev pub Took : Bool → ℕ → List ℕ → Result (Unit {0}) GiveError → File → File → Type 0
Took enough index bytes (Ok done) old new = (enough ≡ true) × HasNow index bytes old new
Took enough index bytes (Err NotAwaited) old new = ⊥
Took enough index bytes (Err TooShort) old new = (enough ≡ false) × (new ≡ old)
Took enough index bytes (Err Memory) old new = (enough ≡ true) × (new ≡ old)

-- the same of a buffer that waits, or does not
abbrev pub IsGiven : Option ℕ → ℕ → List ℕ → Result (Unit {0}) GiveError → File → File → Type 0
IsGiven None index bytes result old new = (result ≡ Err NotAwaited) × (new ≡ old)
IsGiven (Some declared) index bytes result old new =
    Took (is_enough old.exact declared (length bytes)) index bytes result old new
