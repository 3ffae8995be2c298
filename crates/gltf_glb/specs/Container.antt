-- Which bytes are a container, and of which parts; and which fault the others have (glTF 2.0,
-- section 4.4).
use Rattle.std.specs.Prelude.{ℕ, ◌≡◌, ◌+◌, ◌<◌, ◌^◌, ◌⊎◌, List, [], ◌++◌, length, take, drop}
use Rattle.std.specs.Prelude.{Option, Some, None, Result, Ok, Err}
use Rattle.std.specs.List.{flat_map, AllByRecursion}
use Rattle.gltf_glb.specs.Bytes.{json_tag, bin_tag, word_at, headed, chunk}
use Rattle.gltf_glb.specs.Faults.{Fault, type_of, header_fault, reader_fault, json_fault}
use Rattle.gltf_glb.specs.Faults.{later_fault}

-- a chunk of a type that is neither JSON nor BIN
pub record Other : Type 0 where
  pub tag : List ℕ
  pub contents : List ℕ

pub record IsOther (other : Other) : Type 0 where
  pub tag_length : length other.tag ≡ 4
  pub tag_unknown : type_of other.tag ≡ None
  pub fits : length other.contents < 2 ^ 32

abbrev pub spelled : Other → List ℕ
spelled other = chunk other.tag other.contents

-- how the chunks after the JSON chunk end: with nothing, with a BIN chunk and any rest, or with a
-- fault
abbrev pub Ends : List ℕ → Result (Option (List ℕ)) Fault → Type 0
Ends tail (Ok None) = tail ≡ []
Ends tail (Ok (Some bin)) =
    (length bin < 2 ^ 32) × (rest : List ℕ) × (tail ≡ chunk bin_tag bin ++ rest)
Ends tail (Err fault) = later_fault tail ≡ Some fault

-- after the JSON chunk: whole chunks of other types, and then such an end
pub record Later (left : List ℕ) (answer : Result (Option (List ℕ)) Fault) : Type 0 where
  pub others : List Other
  pub tail : List ℕ
  pub unknown : AllByRecursion IsOther others
  pub whole : left ≡ flat_map spelled others ++ tail
  pub ends : Ends tail answer

-- a JSON chunk, whole chunks of other types, then nothing or a BIN chunk and any rest
pub record IsBody (body json : List ℕ) (bin : Option (List ℕ)) : Type 0 where
  pub left : List ℕ
  pub fits : length json < 2 ^ 32
  pub whole : body ≡ chunk json_tag json ++ left
  pub later : Later left (Ok bin)

-- a header that declares the bytes up to the end of the body; what follows is not looked at
pub record IsContainer (bytes json : List ℕ) (bin : Option (List ℕ)) : Type 0 where
  pub body : List ℕ
  pub past : List ℕ
  pub fits : 12 + length body < 2 ^ 32
  pub whole : bytes ≡ headed (12 + length body) (body ++ past)
  pub parts : IsBody body json bin

-- what stands between the header and the declared end
abbrev pub body_of : List ℕ → List ℕ
body_of bytes = drop 12 (take (word_at 8 bytes) bytes)

-- what follows the first chunk
abbrev pub behind_json : List ℕ → List ℕ
behind_json body = drop (8 + word_at 0 body) body

-- the fault of a body: in its first chunk, else after it
abbrev pub HasBodyFault : List ℕ → Fault → Type 0
HasBodyFault body fault =
    (json_fault body ≡ Some fault)
    ⊎ ((json_fault body ≡ None) × Later (behind_json body) (Err fault))

-- the fault of the bytes: in the header, else in the body
abbrev pub HasFault : List ℕ → Fault → Type 0
HasFault bytes fault =
    (header_fault bytes ≡ Some fault)
    ⊎ ((header_fault bytes ≡ None) × HasBodyFault (body_of bytes) fault)

-- the same of bytes that come from a reader
abbrev pub HasReaderFault : List ℕ → Fault → Type 0
HasReaderFault bytes fault =
    (reader_fault bytes ≡ Some fault)
    ⊎ ((reader_fault bytes ≡ None) × HasBodyFault (body_of bytes) fault)
