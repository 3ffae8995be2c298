-- Numbers and indices as C sees them.
use Rattle.std.specs.Prelude.{ℕ, Bool, true, false, List, [], ◌++◌, length, take, drop, Float}
use Rattle.std.specs.Prelude.{Option, Some, None, unwrap_or}
use Rattle.std.specs.Option.{option_and_then}
use Rattle.serde_json.specs.Find.{as_array}
use Rattle.serde_json.specs.View.{view}
use Rattle.serde_json.specs.declared.value.Value.{Value}
use Rattle.gltf_numbers.specs.Numbers.{numbers_in, numbers_or, values_of}
use Rattle.gltf_c_scene.specs.declared.numbers.TheConstants.{NONE}

abbrev pub one_or_zero : Bool → ℕ
one_or_zero true = 1
one_or_zero false = 0

-- the number of an index, or the one that stands for none
abbrev pub index_or_none : Option ℕ → ℕ
index_or_none index = unwrap_or index NONE

-- the numbers of a member that is a list of n of them; else the default
abbrev pub numbers_else : ℕ → List Float → Option Value → List Float
numbers_else n default member = unwrap_or (numbers_or n default member) default

-- a room with a list at its front, as much of it as there is room for; what follows stays
abbrev pub in_room : {X : Type 0} → List X → List X → List X
in_room xs room = take (length room) xs ++ drop (length xs) room

-- the numbers of a value that is a list of numbers; none of any other
abbrev pub numbers_of_value : Value → List Float
numbers_of_value v =
    unwrap_or (option_and_then (λ es. numbers_in (values_of es)) (as_array (view v))) []

-- the same of a member that may be absent
abbrev pub listed_numbers : Option Value → List Float
listed_numbers None = []
listed_numbers (Some v) = numbers_of_value v
