-- What the steps of a reading answer.
use Rattle.std.specs.Prelude.{◌≡◌, ℕ, ◌<◌, ◌≤◌, ◌^◌, List, [], ◌++◌, length, Option, None}
use Rattle.std.specs.Prelude.{option_map}
use Rattle.gltf_glb.specs.declared.binary.Error.{Error}
use Rattle.gltf_glb.specs.declared.binary.Error.TheVariants as binary
use Rattle.gltf_glb.specs.declared.binary.Header.{Header}
use Rattle.gltf_glb.specs.declared.binary.reading.Blob.{Blob}
use Rattle.gltf_glb.specs.declared.binary.reading.Next.{Next}
use Rattle.gltf_glb.specs.declared.binary.reading.Next.TheVariants.{End, Bin, Skip}
use Rattle.gltf_glb.specs.Bytes.{magic, json_tag, bin_tag, word_at, tag_at, chunk}
use Rattle.gltf_glb.specs.Faults.{json_fault, header_fault, Fault, Short, NotMagic, WrongVersion}
use Rattle.gltf_glb.specs.Faults.{WrongLength, ChunkTooLong, Misplaced, UnknownType}
use Rattle.gltf_glb.specs.Container.{Other, IsOther, spelled, behind_json, body_of}

-- the fault that an error names; nothing is said of the cause of `Io`
abbrev pub fault_of : Error → Fault
fault_of (binary.Io cause) = Short
fault_of (binary.Version version) = WrongVersion version
fault_of (binary.Magic bytes) = NotMagic bytes
fault_of (binary.Length length length_read) = WrongLength length length_read
fault_of (binary.ChunkLength ty length length_read) = ChunkTooLong ty length length_read
fault_of (binary.ChunkType ty) = Misplaced ty
fault_of (binary.UnknownChunkType tag) = UnknownType tag

-- the three fields of the header as they stand in the bytes
abbrev pub IsHeader : List ℕ → Header → Type 0
IsHeader bytes header =
    (header.magic ≡ tag_at 0 bytes) × (header.version ≡ word_at 4 bytes)
    × (header.length ≡ word_at 8 bytes)

-- a header without fault, and the bytes between it and the end that it declares
abbrev pub CutsHeader : List ℕ → Header → List ℕ → Type 0
CutsHeader bytes header body =
    (header_fault bytes ≡ None) × IsHeader bytes header × (body ≡ body_of bytes)
    × (tag_at 0 bytes ≡ magic) × (word_at 4 bytes ≡ 2) × (12 ≤ word_at 8 bytes)
    × (word_at 8 bytes ≤ length bytes) × (word_at 8 bytes < 2 ^ 32)

-- json is what the first chunk holds, and left what follows it
abbrev pub CutsJson : List ℕ → List ℕ → List ℕ → Type 0
CutsJson body json left =
    (json_fault body ≡ None) × (left ≡ behind_json body) × (length json < 2 ^ 32)
    × (body ≡ chunk json_tag json ++ left)

-- what the first of the chunks that are left is
abbrev pub IsNext : List ℕ → Next → Type 0
IsNext left End = left ≡ []
IsNext left (Bin blob) =
    (length blob.contents.now < 2 ^ 32)
    × (left ≡ chunk bin_tag blob.contents.now ++ blob.behind.now)
IsNext left (Skip rest) = (other : Other) × IsOther other × (left ≡ spelled other ++ rest.now)

abbrev pub bytes_of_blob : Option Blob → Option (List ℕ)
bytes_of_blob blob = option_map (λ (found : Blob). found.contents.now) blob

-- the blob stands among these bytes, followed by what it says, up to their end
abbrev pub StandsIn : List ℕ → Blob → Type 0
StandsIn bytes blob =
    (front : List ℕ) × (bytes ≡ front ++ (blob.contents.now ++ blob.behind.now))
