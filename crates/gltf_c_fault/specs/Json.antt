-- The JSON of a value, as text for C.
use Rattle.std.specs.Prelude.{◌≡◌, ◌≤◌, ◌⊎◌, ℕ, List, Option, Some, None, length, false}
use Rattle.serde_json.specs.Data.{Data, depth}
use Rattle.serde_json.specs.Read.{read, max_depth}
use Rattle.serde_json.specs.View.{view}
use Rattle.serde_json.specs.Written.{has_float, compact_text, IsInOrder}
use Rattle.serde_json.specs.declared.value.Value.{Value}
use Rattle.gltf_c_fault.specs.Message.{text_in_room}
use Rattle.gltf_c_fault.specs.declared.status.Status.{Status}
use Rattle.gltf_c_fault.specs.declared.status.Status.TheVariants.{Success, NoMemory, NoSuchIndex}

-- a text of a value: the members of objects are in the order of the value, it is the compact text
-- where no number is a float, and read back it is the value again, where it is not nested deeper
-- than texts may be
pub record IsTextOf (d : Data) (text : List ℕ) : Type 0 where
  pub order : IsInOrder text d
  pub compact : has_float d ≡ false → text ≡ compact_text d
  pub reads_back : depth d ≤ max_depth → read text ≡ Some d

pub record IsWritten (d : Data) (status : Status) (old new : List ℕ) (length' : ℕ) : Type 0 where
  pub text : List ℕ
  pub is_text : IsTextOf d text
  pub success : status ≡ Success
  pub written : new ≡ text_in_room text old
  pub counted : length' ≡ length text

-- nothing is written
abbrev pub IsKept : List ℕ → List ℕ → ℕ → ℕ → Type 0
IsKept old new old_length new_length = (new ≡ old) × (new_length ≡ old_length)

-- the text of a value that is there, or there was no memory for it
abbrev pub GivesJson : Option Value → Status → List ℕ → List ℕ → ℕ → ℕ → Type 0
GivesJson None status old new old_length new_length =
    (status ≡ NoSuchIndex) × IsKept old new old_length new_length
GivesJson (Some v) status old new old_length new_length =
    IsWritten (view v) status old new new_length
    ⊎ ((status ≡ NoMemory) × IsKept old new old_length new_length)
