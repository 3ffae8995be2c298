-- Each buffer's own answer (glTF 2.0, section 3.6.1).
use Rattle.std.specs.Prelude.{◌≡◌, ℕ, List, [], ◌++◌, length, reverse, slice_get}
use Rattle.std.specs.Prelude.{Option, Some, None, Result, Ok, Err}
use Rattle.std.specs.List.{flat_map, zip}
use Rattle.std.specs.Option.{option_to_list}
use Rattle.gltf_glb.specs.declared.error.Error.{Error}
use Rattle.gltf_glb.specs.declared.error.Error.TheVariants.{Io}
use Rattle.gltf_names.specs.Named.{Named}
use Rattle.gltf_buffers.specs.Buffers.{Source, IsBytesOf, LeadsTo, name_at, blob_for}
use Rattle.gltf_buffers.specs.Errors.{FailsOrNames}
use Rattle.gltf_buffers.specs.Names.{Names}

-- the name that failed, where an answer reports one
abbrev pub failed_name : Source → Result (List ℕ) Error → Option Named
failed_name source (Err (Io cause)) = name_at source.uri
failed_name source answer = None

-- the answer for buffer i: its padded bytes; or that the source failed at its name, or the fault of
-- the buffer, or that there was not enough memory
abbrev pub IsAnswerFor : Names → Option (List ℕ) → ℕ → Source → Result (List ℕ) Error → Type 0
IsAnswerFor names blob i source (Ok bytes) = IsBytesOf names blob i source (Ok bytes)
IsAnswerFor names blob i source (Err e) =
    FailsOrNames (λ fault. IsBytesOf names blob i source (Err fault)) (LeadsTo names source.uri)
    [] (option_to_list (failed_name source (Err e))) e

-- these are the answers for the first n buffers, whatever those before each one are
pub record AreAnswers (names : Names) (sources : List Source) (blob : Option (List ℕ)) (n : ℕ)
    (answers : List (Result (List ℕ) Error)) : Type 0 where
  pub count : length answers ≡ n
  pub each : (i : ℕ) (source : Source) (answer : Result (List ℕ) Error)
      → slice_get sources i ≡ Some source → slice_get answers i ≡ Some answer
      → IsAnswerFor names (blob_for sources blob i) i source answer

-- the names that failed, in the order of the buffers
abbrev pub failed_names : List Source → List (Result (List ℕ) Error) → List Named
failed_names sources answers =
    flat_map (λ each. option_to_list (failed_name each.0 each.1)) (zip sources answers)

-- the list of failures, the last of them first, has these names and no others more than before
abbrev pub NotesEach : List Source → List (Result (List ℕ) Error) → List Named → List Named
    → Type 0
NotesEach sources answers old new = new ≡ reverse (failed_names sources answers) ++ old
