-- What shared data hold.
use Rattle.std.specs.Prelude.{ℕ, List, Result, Ok, Err, map}
use Rattle.std.specs.declared.alloc.Global.{Global}
use Rattle.std.specs.declared.rc.Rc.{Rc}
use Rattle.std.specs.Borrow.{Bor}
use Rattle.gltf_glb.specs.declared.error.Error.{Error}
use Rattle.gltf_buffers.specs.declared.data.Data.{Data}

-- the bytes of each buffer
abbrev pub bytes_of_each : List (Rc Data Global) → List (List ℕ)
bytes_of_each buffers = map (λ (buffer : Rc Data Global). buffer.value.0.items) buffers

-- the same of bytes that are lent
abbrev pub lent_bytes : List (Bor (List ℕ)) → List (List ℕ)
lent_bytes buffers = map (λ (buffer : Bor (List ℕ)). buffer.now) buffers

-- an answer for a buffer, by its bytes
abbrev pub answer_of : Result (Rc Data Global) Error → Result (List ℕ) Error
answer_of (Ok buffer) = Ok buffer.value.0.items
answer_of (Err e) = Err e

-- each of them
abbrev pub answer_of_each : List (Result (Rc Data Global) Error) → List (Result (List ℕ) Error)
answer_of_each answers = map answer_of answers
