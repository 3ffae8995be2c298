-- What `Glb::from_reader` answers, by the bytes that came.
use Rattle.std.specs.Prelude.{◌≡◌, ◌≤◌, ℕ, List, length, Option, is_none, Result, Ok, Err, ⊤}
use Rattle.std.specs.Prelude.{MatchResult, if◌then◌else◌}
use Rattle.std.specs.Cow.{cow_slice_items}
use Rattle.std.specs.Io.KnownBytes.{Consumes}
use Rattle.gltf_glb.specs.declared.binary.Error as container
use Rattle.gltf_glb.specs.declared.binary.Error.TheVariants as binary
use Rattle.gltf_glb.specs.declared.binary.glb.Glb.{Glb}
use Rattle.gltf_glb.specs.declared.error.Error.{Error}
use Rattle.gltf_glb.specs.declared.error.Error.TheVariants.{Binary, Memory}
use Rattle.gltf_glb.specs.Bytes.{word_at}
use Rattle.gltf_glb.specs.Faults.{Short, front_fault}
use Rattle.gltf_glb.specs.Glb.{items_of}
use Rattle.gltf_glb.specs.Reading.{IsReaderReadingOf, Decides}
use Rattle.gltf_glb.specs.Steps.{IsHeader, fault_of}

-- how many bytes are needed: those of a header where it is refused, else as many as it declares
abbrev pub needed_length : List ℕ → ℕ
needed_length came = if is_none (front_fault came) then word_at 8 came else 12

-- the parts of the one container that the bytes are, whatever follows them, with the header as
-- read
pub record IsReadBy (came : List ℕ) (glb : Glb) : Type 0 where
  pub parts : Decides came (Ok (cow_slice_items glb.json, items_of glb.bin))
  pub header : IsHeader came glb.header
  pub whole : length came ≡ word_at 8 came

-- `Io` says that the bytes that came end too early; each other fault is theirs, whatever comes
-- after them
abbrev pub NamesReaderFault : List ℕ → container.Error → Type 0
NamesReaderFault came (binary.Io cause) = IsReaderReadingOf came (Err Short)
NamesReaderFault came cause = Decides came (Err (fault_of cause))

-- the error names the one fault of the bytes that came, or there was not enough memory
abbrev pub RefusesReader : List ℕ → Error → Type 0
RefusesReader came (Binary cause) = NamesReaderFault came cause
RefusesReader came Memory = ⊤
RefusesReader came _ = ⊥

-- these bytes came, and no more than are needed
pub record ReadsContainer (before after : Option (List ℕ)) (result : Result Glb Error) : Type 0
  where
    pub came : List ℕ
    pub reads : Consumes before after came
    pub within : length came ≤ needed_length came
    pub answer : MatchResult result (IsReadBy came) (RefusesReader came)
