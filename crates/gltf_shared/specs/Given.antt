-- What is held of the names that a source was asked for.
use Rattle.std.specs.Prelude.{◌≡◌, ◌≢◌, ◌⊎◌, ℕ, List, Option, Some, None, IsSome, option_map, ⊤}
use Rattle.std.specs.Prelude.{Bool, true, false, Result, Ok, Err}
use Rattle.std.specs.BTreeMap.{BTreeMap, get_by_text}
use Rattle.std.specs.declared.alloc.Global.{Global}
use Rattle.std.specs.declared.string.String.{String}
use Rattle.gltf_glb.specs.declared.error.Error.{Error}
use Rattle.gltf_glb.specs.declared.error.Error.TheVariants.{Io, Memory}
use Rattle.gltf_glb.specs.declared.error.Error.TheVariants.{ExternalReferenceInSliceImport}
use Rattle.gltf_names.specs.Named.{Named, File, Relative}
use Rattle.gltf_buffers.specs.Names.{Names, Nowhere, CanBeAsked, Gives}
use Rattle.gltf_buffers.specs.Padding.{padded}
use Rattle.gltf_shared.specs.declared.held.Given.{Given}
use Rattle.gltf_shared.specs.declared.held.Given.TheVariants as given
use Rattle.gltf_shared.specs.declared.held.Held.{Held}

-- the bytes, or none where the source failed
abbrev pub given_bytes : Given → Option (List ℕ)
given_bytes (given.Bytes buffer) = Some buffer.value.0.items
given_bytes (given.Failed kind) = None

abbrev pub given_at : BTreeMap (String Global) Given → List ℕ → Option (Option (List ℕ))
given_at map text = option_map given_bytes (get_by_text map text)

-- what is held of a name, where it was asked for
abbrev pub held_at : Held → Named → Option (Option (List ℕ))
held_at held (File text) = given_at held.files text
held_at held (Relative text) = given_at held.relatives text

-- the name has this from now on, and each other one what it had
pub record Puts (old new : Held) (name : Named) (bytes : Option (List ℕ)) : Type 0 where
  pub same : held_at new name ≡ Some bytes
  pub others : (other : Named) → other ≢ name → held_at new other ≡ held_at old other

-- what is held stays
abbrev pub Keeps : Held → Held → Type 0
Keeps old new =
    (name : Named) (bytes : Option (List ℕ)) → held_at old name ≡ Some bytes
    → held_at new name ≡ Some bytes

-- bytes that may be given for a name, with the zeros after them
abbrev pub IsFilled : Names → Named → List ℕ → Type 0
IsFilled names name bytes = (raw : List ℕ) × Gives names name raw × (bytes ≡ padded raw)

-- this may be held of a name
abbrev pub MayBeHeld : Names → Named → Option (List ℕ) → Type 0
MayBeHeld names name None = CanBeAsked names
MayBeHeld names name (Some bytes) = IsFilled names name bytes

-- and what is held may be
abbrev pub IsSound : Names → Held → Type 0
IsSound names held =
    (name : Named) (bytes : Option (List ℕ)) → held_at held name ≡ Some bytes
    → MayBeHeld names name bytes

-- the source failed, or no name can be asked for, or there was not enough memory
abbrev pub IsNotGiven : Names → Error → Type 0
IsNotGiven names (Io cause) = CanBeAsked names
IsNotGiven names ExternalReferenceInSliceImport = names ≡ Nowhere
IsNotGiven names Memory = ⊤
IsNotGiven names _ = ⊥

-- the source failed
abbrev pub is_failure : Error → Bool
is_failure (Io cause) = true
is_failure _ = false

-- no failure is held
abbrev pub NoneFailed : Held → Type 0
NoneFailed held = (name : Named) → held_at held name ≢ Some None

-- bytes that were answered are held, and so is a failure
abbrev pub Fits : Option (Option (List ℕ)) → Result (List ℕ) Error → Type 0
Fits held (Ok bytes) = held ≡ Some (Some bytes)
Fits held (Err (Io cause)) = held ≡ Some None
Fits held (Err e) = ⊤

-- the source was asked for the name, which was not held and is now; or for none
abbrev pub AsksOrHolds : {S : Type 0} → (S → Named → S → Type 0) → Named → Held → Held → S → S
    → Type 0
AsksOrHolds asks name held then old new =
    (new ≡ old)
    ⊎ ((held_at held name ≡ None) × IsSome (held_at then name) × asks old name new)
