-- What a call writes to a room of what it is asked for.
use Rattle.std.specs.Prelude.{◌≡◌, ◌⊎◌, ℕ, List, Option, Some, None, length}
use Rattle.gltf_c_scene.specs.Values.{in_room}
use Rattle.gltf_c_fault.specs.Message.{text_in_room}
use Rattle.gltf_c_fault.specs.declared.status.Status.{Status}
use Rattle.gltf_c_fault.specs.declared.status.Status.TheVariants.{Success, NoSuchIndex, NoMemory}

-- a text stands at the front of a room, and its length beside it; else nothing is written
abbrev pub IsGivenText : Option (List ℕ) → Status → List ℕ → List ℕ → ℕ → ℕ → Type 0
IsGivenText None status old new old_length new_length =
    (status ≡ NoSuchIndex) × (new ≡ old) × (new_length ≡ old_length)
IsGivenText (Some text) status old new old_length new_length =
    (status ≡ Success) × (new ≡ text_in_room text old) × (new_length ≡ length text)

-- the same of a text that has to be made: or there was no memory for it, and nothing is written
abbrev pub IsGivenTextOr : Option (List ℕ) → Status → List ℕ → List ℕ → ℕ → ℕ → Type 0
IsGivenTextOr text status old new old_length new_length =
    IsGivenText text status old new old_length new_length
    ⊎ ((status ≡ NoMemory) × (new ≡ old) × (new_length ≡ old_length))

-- the front of a list stands at the front of a room, and its length beside it; else nothing is
-- written
abbrev pub IsGivenList : {X : Type 0} → Option (List X) → Status → List X → List X → ℕ → ℕ → Type 0
IsGivenList None status old new old_count new_count =
    (status ≡ NoSuchIndex) × (new ≡ old) × (new_count ≡ old_count)
IsGivenList (Some xs) status old new old_count new_count =
    (status ≡ Success) × (new ≡ in_room xs old) × (new_count ≡ length xs)
