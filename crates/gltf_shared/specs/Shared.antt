-- Buffers that lead to one name have what was given for it (glTF 2.0, sections 2.8 and 3.6.1).
use Rattle.std.specs.Prelude.{◌≡◌, ℕ, List, Some, Result, Ok, Err, slice_get, ⊤}
use Rattle.gltf_glb.specs.declared.error.Error.{Error}
use Rattle.gltf_glb.specs.declared.error.Error.TheVariants.{Io}
use Rattle.gltf_names.specs.Named.{Named}
use Rattle.gltf_buffers.specs.Buffers.{Source, name_at}

abbrev pub IsNotFailed : Error → Type 0
IsNotFailed (Io cause) = ⊥
IsNotFailed _ = ⊤

-- two answers for one name: where both are bytes, these are the same, and where one says that the
-- source failed, the other has no bytes
abbrev pub AreAlike : Result (List ℕ) Error → Result (List ℕ) Error → Type 0
AreAlike (Ok one) (Ok other) = one ≡ other
AreAlike (Ok one) (Err e) = IsNotFailed e
AreAlike (Err e) (Ok other) = IsNotFailed e
AreAlike (Err e) (Err f) = ⊤

-- any two buffers that lead to one name have such answers
abbrev pub AreShared : List Source → List (Result (List ℕ) Error) → Type 0
AreShared sources answers =
    (name : Named) (i j : ℕ) (s t : Source) (a b : Result (List ℕ) Error)
    → slice_get sources i ≡ Some s → name_at s.uri ≡ Some name → slice_get answers i ≡ Some a
    → slice_get sources j ≡ Some t → name_at t.uri ≡ Some name → slice_get answers j ≡ Some b
    → AreAlike a b
