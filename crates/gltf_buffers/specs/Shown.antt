-- What vectors and data hold.
use Rattle.std.specs.Prelude.{ℕ, List, Option, Result, Ok, Err, option_map, map, Vec}
use Rattle.std.specs.declared.alloc.Global.{Global}
use Rattle.gltf_glb.specs.declared.error.Error.{Error}
use Rattle.gltf_buffers.specs.declared.data.Data.{Data}

-- the bytes of a blob that may be absent
abbrev pub blob_bytes : Option (Vec ℕ Global) → Option (List ℕ)
blob_bytes blob = option_map (λ bytes. bytes.items) blob

-- the bytes of each buffer
abbrev pub bytes_of_each : List Data → List (List ℕ)
bytes_of_each buffers = map (λ buffer. buffer.0.items) buffers

-- an answer for a buffer, by its bytes
abbrev pub answer_of : Result Data Error → Result (List ℕ) Error
answer_of (Ok buffer) = Ok buffer.0.items
answer_of (Err e) = Err e

-- each of them
abbrev pub answer_of_each : List (Result Data Error) → List (Result (List ℕ) Error)
answer_of_each answers = map answer_of answers
