-- What a file out of a reader is: the bytes that came decide (glTF 2.0, section 4.4, of a
-- container).
use Rattle.std.specs.Prelude.{◌≡◌, ◌≤◌, ◌<◌, ◌⊎◌, ℕ, List, length, Option, true, false, nat_eq, ⊤}
use Rattle.std.specs.Prelude.{MatchBool}
use Rattle.std.specs.Io.KnownBytes.{Consumes, IsAtEnd}
use Rattle.std.specs.List.{starts_with}
use Rattle.gltf_glb.specs.Bytes.{magic}
use Rattle.gltf_glb.specs.Front.{IsWhole}
use Rattle.gltf_glb.specs.Reader.{needed_length, NamesReaderFault}
use Rattle.gltf_glb.specs.declared.error.Error.{Error}
use Rattle.gltf_glb.specs.declared.error.Error.TheVariants.{Binary, Io, Memory}
use Rattle.gltf_json.specs.declared.root.Root.{Root}
use Rattle.gltf.specs.Import.{IsDocument, IsValidDocument, IsOnlyDocument, IsNoDocument}
use Rattle.gltf.specs.Import.{IsNoValidDocument, RefusesText, RefusesRules}

-- these bytes came: of a container no more than are needed
pub record Gives (before after : Option (List ℕ)) (Answer : List ℕ → Type 0) : Type 0 where
  pub came : List ℕ
  pub reads : Consumes before after came
  pub within : starts_with nat_eq came magic ≡ true → length came ≤ needed_length came
  pub answer : Answer came

-- four bytes came or more: of a container as many as it declares, of plain text all up to the
-- reader's end
abbrev pub IsAllThatCounts : Option (List ℕ) → List ℕ → Type 0
IsAllThatCounts left came =
    (4 ≤ length came) × MatchBool (starts_with nat_eq came magic) (IsWhole came) (IsAtEnd left)

-- fewer than four bytes came, or they are plain text
abbrev pub IsNoContainer : List ℕ → Type 0
IsNoContainer came = (length came < 4) ⊎ (starts_with nat_eq came magic ≡ false)

-- the reader failed or ended too early, or there was not enough memory
abbrev pub IsIoOrMemory : Error → Type 0
IsIoOrMemory (Io cause) = ⊤
IsIoOrMemory Memory = ⊤
IsIoOrMemory _ = ⊥

-- why no more bytes came, or the fault of the container that they are
abbrev pub StopsReading : List ℕ → Error → Type 0
StopsReading came Memory = ⊤
StopsReading came (Io cause) = IsNoContainer came
StopsReading came (Binary cause) =
    (starts_with nat_eq came magic ≡ true) × NamesReaderFault came cause
StopsReading came _ = ⊥

-- one of these; or another error, where all bytes that count came, and P holds of them and of it
abbrev pub StopsReadingOr : (List ℕ → Error → Type 0) → Option (List ℕ) → List ℕ → Error → Type 0
StopsReadingOr P left came Memory = ⊤
StopsReadingOr P left came (Io cause) = IsNoContainer came
StopsReadingOr P left came (Binary cause) = StopsReading came (Binary cause)
StopsReadingOr P left came e = IsAllThatCounts left came × P came e

-- where the error reports a fault of the bytes that came, N of them
abbrev pub UnlessFailure : (List ℕ → Type 0) → List ℕ → Error → Type 0
UnlessFailure N came Memory = ⊤
UnlessFailure N came (Io cause) = ⊤
UnlessFailure N came e = N came

-- the bytes that came are a file of these records and this blob, and of no others
pub record IsFile (left : Option (List ℕ)) (came : List ℕ) (r : Root) (blob : Option (List ℕ))
    : Type 0 where
  pub all : IsAllThatCounts left came
  pub document : IsDocument came r blob
  pub only : IsOnlyDocument came r blob

-- the same of records that break no rule
pub record IsValidFile (left : Option (List ℕ)) (came : List ℕ) (r : Root)
    (blob : Option (List ℕ)) : Type 0 where
  pub all : IsAllThatCounts left came
  pub valid : IsValidDocument came r blob
  pub only : IsOnlyDocument came r blob

-- the reading stopped, or the container, the text or the records do not hold: then the bytes that
-- came are no document
pub record RefusesFile (left : Option (List ℕ)) (came : List ℕ) (e : Error) : Type 0 where
  pub told : StopsReadingOr RefusesText left came e
  pub exact : UnlessFailure IsNoDocument came e

-- the text, the records in it or the rules do not hold
abbrev pub RefusesTextOrRules : List ℕ → Error → Type 0
RefusesTextOrRules came e = RefusesText came e ⊎ RefusesRules came e

-- the same with the rules
pub record RefusesValidFile (left : Option (List ℕ)) (came : List ℕ) (e : Error) : Type 0 where
  pub told : StopsReadingOr RefusesTextOrRules left came e
  pub exact : UnlessFailure IsNoValidDocument came e
