-- The bytes of each buffer, or what is wrong with it (glTF 2.0, sections 2.8, 3.6.1 and 3.6.1.2).
use Rattle.std.specs.Prelude.{◌≡◌, ◌<◌, ℕ, List, [], length, map, take, get_or, slice_get, nat_lt}
use Rattle.std.specs.Prelude.{Option, Some, None, option_map, option_and_then, is_some}
use Rattle.std.specs.Prelude.{Result, Ok, Err, string_bytes, if◌then◌else◌}
use Rattle.std.specs.List.{list_all}
use Rattle.base64.specs.declared.decode.DecodeError.{DecodeError}
use Rattle.gltf_json.specs.declared.root.Root.{Root}
use Rattle.gltf_json_geometry.specs.declared.buffer.Buffer.{Buffer}
use Rattle.gltf_names.specs.Named.{Named}
use Rattle.gltf_buffers.specs.Padding.{padded}
use Rattle.gltf_buffers.specs.Payload.{payload_bytes}
use Rattle.gltf_buffers.specs.Uri.{Meaning, Payload, File, Relative, Unsupported, uri_of}
use Rattle.gltf_buffers.specs.Names.{Names, CanBeAsked, MayBeGiven, name_of}

-- where the bytes of a buffer are, and how many it declares
pub record Source : Type 0 where
  pub declared : ℕ
  pub uri : Option (List ℕ)

abbrev pub source_of : Buffer → Source
source_of buffer = record {
  declared = buffer.byte_length;
  uri =
      option_map string_bytes buffer.uri;
}

abbrev pub sources_of : Root → List Source
sources_of r = map source_of r.buffers.items

-- what is wrong with a buffer: its payload, no blob is left for it, its URI leads outside where no
-- name can be asked for, or has no known scheme, or it is shorter than it declares
pub data BufferFault : Type 0 where
  BadPayload : DecodeError → BufferFault
  NoBlob : BufferFault
  External : BufferFault
  NoScheme : BufferFault
  TooShort : ℕ → ℕ → ℕ → BufferFault

abbrev pub decoded_bytes : Result (List ℕ) DecodeError → Result (List ℕ) BufferFault
decoded_bytes (Ok bytes) = Ok bytes
decoded_bytes (Err fault) = Err (BadPayload fault)

-- what stands outside the document: what was given, where names can be asked for
abbrev pub bytes_outside : Option (List ℕ) → Result (List ℕ) BufferFault
bytes_outside None = Err External
bytes_outside (Some bytes) = Ok bytes

-- the bytes of a URI, with what was given for the name that it leads to
abbrev pub meant_bytes : Option (List ℕ) → Meaning → Result (List ℕ) BufferFault
meant_bytes given (Payload text) = decoded_bytes (payload_bytes text)
meant_bytes given (File name) = bytes_outside given
meant_bytes given (Relative name) = bytes_outside given
meant_bytes given Unsupported = Err NoScheme

abbrev pub blob_or_fault : Option (List ℕ) → Result (List ℕ) BufferFault
blob_or_fault None = Err NoBlob
blob_or_fault (Some blob) = Ok blob

-- a buffer without URI is the blob
abbrev pub raw_bytes : Option (List ℕ) → Option (List ℕ) → Option (List ℕ)
    → Result (List ℕ) BufferFault
raw_bytes given blob None = blob_or_fault blob
raw_bytes given blob (Some text) = meant_bytes given (uri_of text)

-- these bytes with zeros after them; a fault stays as it is
abbrev pub filled_bytes : Result (List ℕ) BufferFault → Result (List ℕ) BufferFault
filled_bytes (Ok bytes) = Ok (padded bytes)
filled_bytes (Err fault) = Err fault

abbrev pub long_enough : ℕ → ℕ → List ℕ → Result (List ℕ) BufferFault
long_enough i declared bytes = if nat_lt (length bytes) declared then Err
    (TooShort i declared (length bytes)) else Ok bytes

abbrev pub checked_bytes : ℕ → ℕ → Result (List ℕ) BufferFault → Result (List ℕ) BufferFault
checked_bytes i declared (Ok bytes) = long_enough i declared bytes
checked_bytes i declared (Err fault) = Err fault

-- the padded bytes of buffer i, or what is wrong with it, with what was given for its name
unfoldable pub bytes_of : Option (List ℕ) → Option (List ℕ) → ℕ → Source
    → Result (List ℕ) BufferFault
bytes_of given blob i source =
    checked_bytes i source.declared (filled_bytes (raw_bytes given blob source.uri))

-- the name that a source leads to
abbrev pub name_at : Option (List ℕ) → Option Named
name_at uri = option_and_then (λ text. name_of (uri_of text)) uri

-- a source leads to this name, and names can be asked for
abbrev pub LeadsTo : Names → Option (List ℕ) → Named → Type 0
LeadsTo names uri name = CanBeAsked names × (name_at uri ≡ Some name)

-- what a URI means, by what may have been given for its name
pub record IsMeant (names : Names) (meaning : Meaning) (result : Result (List ℕ) BufferFault)
    : Type 0 where
  pub given : Option (List ℕ)
  pub may : MayBeGiven names (name_of meaning) given
  pub is : meant_bytes given meaning ≡ result

-- the padded bytes of a URI, or of the blob where there is none
pub record IsDataOf (names : Names) (blob uri : Option (List ℕ))
    (result : Result (List ℕ) BufferFault) : Type 0 where
  pub given : Option (List ℕ)
  pub may : MayBeGiven names (name_at uri) given
  pub is : filled_bytes (raw_bytes given blob uri) ≡ result

-- the same of buffer i, which declares how many there have to be
pub record IsBytesOf (names : Names) (blob : Option (List ℕ)) (i : ℕ) (source : Source)
    (result : Result (List ℕ) BufferFault) : Type 0 where
  pub given : Option (List ℕ)
  pub may : MayBeGiven names (name_at source.uri) given
  pub is : bytes_of given blob i source ≡ result

-- the blob belongs to the first buffer that has no URI; that it is the first of the list, as
-- section 3.6.1.2 asks, is not asked for here
unfoldable pub blob_for : List Source → Option (List ℕ) → ℕ → Option (List ℕ)
blob_for sources blob i = if list_all (λ source. is_some source.uri)
    (take i sources) then blob else None

-- these are the bytes of the first n buffers
pub record AreBytes (names : Names) (sources : List Source) (blob : Option (List ℕ)) (n : ℕ)
    (buffers : List (List ℕ)) : Type 0 where
  pub count : length buffers ≡ n
  pub each : (i : ℕ) (source : Source) → i < n → slice_get sources i ≡ Some source
      → IsBytesOf names (blob_for sources blob i) i source (Ok (get_or buffers i []))

-- this is the fault of the first buffer that has one
pub record HasBufferFault (names : Names) (sources : List Source) (blob : Option (List ℕ))
    (fault : BufferFault) : Type 0 where
  pub index : ℕ
  pub before : List (List ℕ)
  pub fine : AreBytes names sources blob index before
  pub source : Source
  pub there : slice_get sources index ≡ Some source
  pub wrong : IsBytesOf names (blob_for sources blob index) index source (Err fault)

-- a buffer leads to this name, and no buffer before it has a fault
pub record IsAskedFor (names : Names) (sources : List Source) (blob : Option (List ℕ))
    (name : Named) : Type 0 where
  pub index : ℕ
  pub before : List (List ℕ)
  pub fine : AreBytes names sources blob index before
  pub source : Source
  pub there : slice_get sources index ≡ Some source
  pub leads : LeadsTo names source.uri name
