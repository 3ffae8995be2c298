-- Which names a source was asked for.
use Rattle.std.specs.Prelude.{◌≡◌, ◌≢◌, ◌⊎◌, ℕ, List, [], ◌∷◌, Option, Some, None, IsSome, ⊤}
use Rattle.std.specs.Prelude.{Bool, true, false, Result, Ok, Err, slice_get}
use Rattle.std.specs.List.{AllByRecursion}
use Rattle.gltf_glb.specs.declared.error.Error.{Error}
use Rattle.gltf_glb.specs.declared.error.Error.TheVariants.{Io, Memory}
use Rattle.gltf_names.specs.Named.{Named}
use Rattle.gltf_buffers.specs.Buffers.{Source, name_at}
use Rattle.gltf_shared.specs.declared.held.Held.{Held}
use Rattle.gltf_shared.specs.Given.{held_at}

-- calls for these names, the last of them first, led from one state of a source to another
abbrev pub Asked : {S : Type 0} → (S → Named → S → Type 0) → S → List Named → S → Type 0
Asked asks old [] new = new ≡ old
Asked {S} asks old (name ∷ names) new = (mid : S) × Asked asks old names mid × asks mid name new

-- no name twice
abbrev pub AreOnce : List Named → Type 0
AreOnce [] = ⊤
AreOnce (name ∷ names) = AllByRecursion (λ (other : Named). other ≢ name) names × AreOnce names

-- a buffer leads to the name
abbrev pub IsNamedBy : List Source → Named → Type 0
IsNamedBy sources name =
    (i : ℕ) × (s : Source) × (slice_get sources i ≡ Some s) × (name_at s.uri ≡ Some name)

-- the source was asked for names of these buffers alone, and for none of them twice
pub record AsksOnce {S : Type 0} (asks : S → Named → S → Type 0) (sources : List Source)
    (old new : S) : Type 0 where
  pub names : List Named
  pub once : AreOnce names
  pub named : AllByRecursion (IsNamedBy sources) names
  pub asked : Asked asks old names new

-- the source was asked for a file, and then for names of its buffers, none of them twice
abbrev pub AsksForFile : {S : Type 0} → (S → Named → S → Type 0) → Named → List Source → S → S
    → Type 0
AsksForFile {S} asks name sources old new =
    (mid : S) × asks old name mid × AsksOnce asks sources mid new

-- the source was asked for the name that a URI leads to, which was not held and is now; or for none
abbrev pub AsksNamed : {S : Type 0} → (S → Named → S → Type 0) → Option (List ℕ) → Held → Held → S
    → S → Type 0
AsksNamed asks uri held then old new =
    (new ≡ old)
    ⊎ ((name : Named) × (name_at uri ≡ Some name) × (held_at held name ≡ None)
    × IsSome (held_at then name) × asks old name new)

abbrev pub says_memory : {X : Type 0} → Result X Error → Bool
says_memory (Ok x) = false
says_memory (Err Memory) = true
says_memory (Err e) = false

-- of the source's failures a call noted the name that it asked for, where the source failed at it;
-- and nothing, where bytes were given, or none were asked for, or a failure at the name was held.
-- Where there was not enough memory, nothing is said.
abbrev pub Notes : {X : Type 0} → (Named → Type 0) → Held → Result X Error → List Named
    → List Named → Type 0
Notes Q held (Ok x) old new = new ≡ old
Notes Q held (Err (Io cause)) old new =
    (name : Named) × Q name
    × ((new ≡ name ∷ old) ⊎ ((held_at held name ≡ Some None) × (new ≡ old)))
Notes Q held (Err Memory) old new = ⊤
Notes Q held (Err e) old new = new ≡ old

-- the fact, or there was not enough memory
abbrev pub UnlessMemory : {X : Type 0} → Result X Error → Type 0 → Type 0
UnlessMemory (Ok x) P = P
UnlessMemory (Err Memory) P = ⊤
UnlessMemory (Err e) P = P
