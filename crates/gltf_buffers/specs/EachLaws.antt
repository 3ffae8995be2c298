-- What each buffer's own answer says of all buffers together (glTF 2.0, section 3.6.1).
use Rattle.std.specs.Prelude.{◌≡◌, ℕ, List, [], ◌∷◌, ◌++◌, length, map, slice_get}
use Rattle.std.specs.Prelude.{Option, Some, Result, Ok, Err}
use Rattle.std.specs.Option.{option_to_list}
use Rattle.gltf_glb.specs.declared.error.Error.{Error}
use Rattle.gltf_buffers.specs.Buffers.{Source, AreBytes, HasBufferFault, IsAskedFor}
use Rattle.gltf_buffers.specs.Each.{AreAnswers, failed_name}
use Rattle.gltf_buffers.specs.Errors.{FailsOrNames}
use Rattle.gltf_buffers.specs.Names.{Names}

-- where no answer is an error, they are the bytes of all buffers
abbrev pub AreBytesOfAll : Type 0
AreBytesOfAll =
    (names : Names) (sources : List Source) (blob : Option (List ℕ)) (n : ℕ)
    (buffers : List (List ℕ)) → AreAnswers names sources blob n (map Ok buffers)
    → AreBytes names sources blob n buffers

-- the first error among them is one that all buffers together are refused with
abbrev pub FirstErrorIsThatOfAll : Type 0
FirstErrorIsThatOfAll =
    (names : Names) (sources : List Source) (blob : Option (List ℕ)) (n : ℕ)
    (before : List (List ℕ)) (e : Error) (after : List (Result (List ℕ) Error)) (source : Source)
    → AreAnswers names sources blob n (map Ok before ++ Err e ∷ after)
    → slice_get sources (length before) ≡ Some source
    → FailsOrNames (HasBufferFault names sources blob) (IsAskedFor names sources blob)
    [] (option_to_list (failed_name source (Err e))) e
