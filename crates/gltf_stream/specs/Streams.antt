-- What readers gave and writers took, where their bytes are known.
use Rattle.std.specs.Prelude.{◌≡◌, ◌≤◌, ℕ, List, ◌++◌, length, take, Option, ⊤}
use Rattle.std.specs.Borrow.{Bor}
use Rattle.std.specs.List.{flat_map}
use Rattle.std.specs.Io.KnownBytes.{Consumes, Appends, IsAtEnd}
use Rattle.gltf_stream.specs.declared.reading.ReadFault.{ReadFault}
use Rattle.gltf_stream.specs.declared.reading.ReadFault.TheVariants.{Ended, Failed, Memory}

-- the reader gave some bytes, and these follow those that were there
abbrev pub ReadsBehind : Option (List ℕ) → Option (List ℕ) → List ℕ → List ℕ → Type 0
ReadsBehind before after old new =
    (came : List ℕ) × Consumes before after came × (new ≡ old ++ came)

-- where the fault is that the reader was at its end, it is
abbrev pub EndsOnlyAtEnd : Option (List ℕ) → ReadFault → Type 0
EndsOnlyAtEnd left Ended = IsAtEnd left
EndsOnlyAtEnd left (Failed cause) = ⊤
EndsOnlyAtEnd left Memory = ⊤

-- the reader failed, or there was not enough memory
abbrev pub IsNoEnd : ReadFault → Type 0
IsNoEnd Ended = ⊥
IsNoEnd (Failed cause) = ⊤
IsNoEnd Memory = ⊤

-- a beginning of the text was written
abbrev pub WritesBeginning : Option (List ℕ) → Option (List ℕ) → List ℕ → Type 0
WritesBeginning before after text =
    (count : ℕ) × (count ≤ length text) × Appends before after (take count text)

-- the bytes of pieces one after another
abbrev pub bytes_of_all : List (Bor (List ℕ)) → List ℕ
bytes_of_all pieces = flat_map (λ (piece : Bor (List ℕ)). piece.now) pieces
