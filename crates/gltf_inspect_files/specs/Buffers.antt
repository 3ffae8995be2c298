-- The code of what is wrong with a buffer, and where it stands (glTF 2.0, sections 2.8, 3.6.1 and
-- 5.10).
use Rattle.std.specs.Prelude.{ℕ, suc, Bool, true, false, if◌then◌else◌, List, [], ◌∷◌, ◌++◌, codes}
use Rattle.std.specs.Prelude.{⊤, Result, Ok, Err}
use Rattle.gltf_json_record.specs.Place.{Place, named, numbered}
use Rattle.gltf_glb.specs.declared.error.Error.{Error}
use Rattle.gltf_glb.specs.declared.error.Error.TheVariants as error
use Rattle.gltf_findings.specs.declared.code.Code.{Code}
use Rattle.gltf_findings.specs.declared.code.Code.TheVariants as code

abbrev pub buffer_code : Error → Code
buffer_code (error.Base64 cause) = code.InvalidUri
buffer_code (error.BufferLength buffer expected actual) = code.BufferByteLengthMismatch
buffer_code error.MissingBlob = code.BufferMissingGlbData
buffer_code _ = code.IoError

-- a fault of the bytes is the buffer's; others are of its uri
abbrev pub is_of_bytes : Error → Bool
is_of_bytes (error.BufferLength buffer expected actual) = true
is_of_bytes error.MissingBlob = true
is_of_bytes _ = false

abbrev pub buffer_place : ℕ → Error → List Place
buffer_place i e =
    if is_of_bytes e then named (codes "buffers") ∷ numbered i ∷ []
    else named (codes "buffers") ∷ numbered i ∷ named (codes "uri") ∷ []

-- the fault of buffer i, where it has one
abbrev pub answer_findings : ℕ → Result (List ℕ) Error → List (List Place × Code)
answer_findings i (Ok bytes) = []
answer_findings i (Err e) = (buffer_place i e, buffer_code e) ∷ []

-- those of the buffers from index i on, each by itself
abbrev pub buffers_findings : ℕ → List (Result (List ℕ) Error) → List (List Place × Code)
buffers_findings i [] = []
buffers_findings i (answer ∷ answers) =
    answer_findings i answer ++ buffers_findings (suc i) answers

-- out of memory says nothing of a buffer
abbrev pub is_memory : Error → Bool
is_memory error.Memory = true
is_memory _ = false

abbrev pub SaysSomething : Result (List ℕ) Error → Type 0
SaysSomething (Ok bytes) = ⊤
SaysSomething (Err error.Memory) = ⊥
SaysSomething (Err e) = ⊤

-- the bytes of the buffers that have no fault
abbrev pub had : List (Result (List ℕ) Error) → List (List ℕ)
had [] = []
had (Ok bytes ∷ answers) = bytes ∷ had answers
had (Err e ∷ answers) = had answers

-- nothing is found
abbrev pub is_nil : {T : Type 0} → List T → Bool
is_nil [] = true
is_nil (x ∷ xs) = false
