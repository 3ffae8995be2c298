-- What is wrong with bytes that are no container. Each table is read from the top, and the first
-- row that fits decides.
use Rattle.std.specs.Prelude.{ℕ, ◌-◌, List, [], ◌∷◌, length, Bool, true, false, nat_lt, ◌==◌, ◌&&◌}
use Rattle.std.specs.Prelude.{◌||◌, not, Option, Some, None, is_none, if◌then◌else◌}
use Rattle.std.specs.Option.{option_or}
use Rattle.std.specs.Str.{bytes_eq}
use Rattle.gltf_glb.specs.declared.binary.ChunkType.{ChunkType}
use Rattle.gltf_glb.specs.declared.binary.ChunkType.TheVariants.{Json, Bin}
use Rattle.gltf_glb.specs.Bytes.{magic, json_tag, bin_tag, word_at, tag_at}

pub data Fault : Type 0 where
  Short : Fault
  NotMagic : List ℕ → Fault
  WrongVersion : ℕ → Fault
  WrongLength : ℕ → ℕ → Fault
  ChunkTooLong : ChunkType → ℕ → ℕ → Fault
  Misplaced : ChunkType → Fault
  UnknownType : List ℕ → Fault

-- the type that four bytes name
abbrev pub type_of : List ℕ → Option ChunkType
type_of tag =
    if bytes_eq tag json_tag then Some Json else if bytes_eq tag bin_tag then Some Bin else None

abbrev pub is_json : Option ChunkType → Bool
is_json None = false
is_json (Some Json) = true
is_json (Some Bin) = false

abbrev pub is_bin : Option ChunkType → Bool
is_bin None = false
is_bin (Some Json) = false
is_bin (Some Bin) = true

-- what the first row says that fits; no fault where none does
abbrev pub first_row : List (Bool × Option Fault) → Option Fault
first_row [] = None
first_row (row ∷ rows) = if row.0 then row.1 else first_row rows

-- in the header (section 4.4.2)
unfoldable pub header_fault : List ℕ → Option Fault
header_fault bytes =
    let total = word_at 8 bytes in
    first_row (
    (nat_lt (length bytes) 4, Some Short)
    ∷ (not (bytes_eq (tag_at 0 bytes) magic), Some (NotMagic (tag_at 0 bytes)))
    ∷ (nat_lt (length bytes) 12, Some Short)
    ∷ (nat_lt total 12 || nat_lt (length bytes) total, Some (WrongLength total (length bytes)))
    ∷ (not (word_at 4 bytes == 2), Some (WrongVersion (word_at 4 bytes)))
    ∷ [])

-- in the header of a container that comes from a reader (section 4.4.2), by the bytes that came:
-- twelve of them decide, and the version is looked at before the length
unfoldable pub front_fault : List ℕ → Option Fault
front_fault bytes =
    let total = word_at 8 bytes in
    first_row (
    (nat_lt (length bytes) 4, Some Short)
    ∷ (not (bytes_eq (tag_at 0 bytes) magic), Some (NotMagic (tag_at 0 bytes)))
    ∷ (nat_lt (length bytes) 12, Some Short)
    ∷ (not (word_at 4 bytes == 2), Some (WrongVersion (word_at 4 bytes)))
    ∷ (nat_lt total 12, Some (WrongLength total 12))
    ∷ [])

-- and then in the number of bytes that came
abbrev pub reader_fault : List ℕ → Option Fault
reader_fault bytes =
    option_or (front_fault bytes)
    (if nat_lt (length bytes) (word_at 8 bytes) then Some Short else None)

-- in the first chunk, where the body is what stands between the header and the declared end
-- (section 4.4.3)
unfoldable pub json_fault : List ℕ → Option Fault
json_fault body =
    let tag = tag_at 4 body in
    let room = length body - 8 in
    first_row (
    (nat_lt (length body) 8, Some Short)
    ∷ (is_bin (type_of tag), Some (Misplaced Bin))
    ∷ (is_none (type_of tag), Some (UnknownType tag))
    ∷ (nat_lt room (word_at 0 body), Some (ChunkTooLong Json (word_at 0 body) room))
    ∷ [])

-- in what is left after the JSON chunk, and again after each skipped chunk (section 4.4.3)
unfoldable pub later_fault : List ℕ → Option Fault
later_fault left =
    let tag = tag_at 4 left in
    let room = length left - 8 in
    let is_long = nat_lt room (word_at 0 left) in
    first_row (
    (length left == 0, None)
    ∷ (nat_lt (length left) 8, Some Short)
    ∷ (is_json (type_of tag), Some (Misplaced Json))
    ∷ (is_bin (type_of tag) && is_long, Some (ChunkTooLong Bin (word_at 0 left) room))
    ∷ (is_bin (type_of tag), None)
    ∷ (is_long, Some (UnknownType tag))
    ∷ [])
