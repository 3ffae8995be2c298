-- What the steps answer that take the bytes of a container out of a reader.
use Rattle.std.specs.Prelude.{◌≡◌, ℕ, ◌<◌, ◌≤◌, ◌^◌, ◌⊎◌, List, length, Some, None, ⊤, false}
use Rattle.std.specs.Str.{bytes_eq}
use Rattle.gltf_glb.specs.declared.error.Error.{Error}
use Rattle.gltf_glb.specs.declared.error.Error.TheVariants.{Binary, Memory}
use Rattle.gltf_glb.specs.declared.binary.Error as container
use Rattle.gltf_glb.specs.declared.binary.Error.TheVariants as binary
use Rattle.gltf_glb.specs.Bytes.{magic, word_at, tag_at}
use Rattle.gltf_glb.specs.Faults.{Short, WrongVersion, WrongLength, front_fault}

-- the reader ended or failed, or there was not enough memory
abbrev pub IsStop : Error → Type 0
IsStop (Binary (binary.Io cause)) = ⊤
IsStop Memory = ⊤
IsStop _ = ⊥

-- twelve bytes came, a header without fault that declares so many bytes (glTF 2.0, section 4.4.2)
abbrev pub IsFront : List ℕ → ℕ → Type 0
IsFront came total =
    (length came ≡ 12) × (front_fault came ≡ None) × (total ≡ word_at 8 came)
    × (12 ≤ total) × (total < 2 ^ 32)

-- the fault of a header after its first four bytes
abbrev pub IsDeclarationFault : List ℕ → container.Error → Type 0
IsDeclarationFault came (binary.Version version) = front_fault came ≡ Some (WrongVersion version)
IsDeclarationFault came (binary.Length total length_read) =
    front_fault came ≡ Some (WrongLength total length_read)
IsDeclarationFault came _ = ⊥

-- too few bytes came, or the header is refused
abbrev pub IsFrontFault : List ℕ → Error → Type 0
IsFrontFault came (Binary (binary.Io cause)) = (length came < 12) × (front_fault came ≡ Some Short)
IsFrontFault came (Binary (binary.Version version)) =
    (length came ≡ 12) × (front_fault came ≡ Some (WrongVersion version))
IsFrontFault came (Binary (binary.Magic tag)) =
    (length came ≡ 4) × (tag ≡ tag_at 0 came) × (bytes_eq (tag_at 0 came) magic ≡ false)
IsFrontFault came (Binary (binary.Length total length_read)) =
    (length came ≡ 12) × (front_fault came ≡ Some (WrongLength total length_read))
IsFrontFault came Memory = length came < 12
IsFrontFault came _ = ⊥

-- as many bytes came as a header without fault declares
abbrev pub IsWhole : List ℕ → Type 0
IsWhole came = (front_fault came ≡ None) × (length came ≡ word_at 8 came) × (12 ≤ length came)

-- fewer bytes came than a header without fault declares
abbrev pub IsCutOff : List ℕ → Type 0
IsCutOff came = (front_fault came ≡ None) × (length came < word_at 8 came)

-- the header is refused, or the reader stopped before the declared end
abbrev pub IsFaultOnTheWay : List ℕ → Error → Type 0
IsFaultOnTheWay came e = IsFrontFault came e ⊎ (IsStop e × IsCutOff came)
