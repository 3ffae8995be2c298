-- Numbers in JSON (RFC 8259, section 6), as the nearest doubles.
use Rattle.std.specs.Prelude.{ℕ, List, [], ◌∷◌, Option, Some, None, Float, length, ◌==◌}
use Rattle.std.specs.Prelude.{option_and_then, option_map, if◌then◌else◌}
use Rattle.serde_json.specs.Data.{Data, Items, no_items, item}
use Rattle.serde_json.specs.Find.{as_array, as_number, to_float}
use Rattle.serde_json.specs.View.{view}
use Rattle.serde_json.specs.declared.value.Value.{Value}

-- the number that a value is; none of any other value
abbrev pub number_of : Data → Option Float
number_of d = option_map to_float (as_number d)

-- the numbers of values that are all numbers; none where one is not
abbrev pub numbers_in : List Data → Option (List Float)
numbers_in [] = Some []
numbers_in (d ∷ ds) =
    option_and_then (λ x. option_map (λ xs. x ∷ xs) (numbers_in ds)) (number_of d)

-- the values of a list
abbrev pub values_of : Items → List Data
values_of no_items = []
values_of (item d ds) = d ∷ values_of ds

-- the numbers of a list of any length; none of any other value
abbrev pub any_number_of : Data → Option (List Float)
any_number_of d = option_and_then numbers_in (option_map values_of (as_array d))

-- the numbers of a list of exactly n numbers; none of any other value
abbrev pub exactly : ℕ → Data → Option (List Float)
exactly n d =
    option_and_then (λ ds. if length ds == n then numbers_in ds else None)
    (option_map values_of (as_array d))

-- the same of a member that may be absent: then the default is meant
abbrev pub number_or : Float → Option Value → Option Float
number_or default None = Some default
number_or default (Some v) = number_of (view v)

abbrev pub numbers_or : ℕ → List Float → Option Value → Option (List Float)
numbers_or n default None = Some default
numbers_or n default (Some v) = exactly n (view v)

-- the number of a member that may be absent; none where it is there and is no number
abbrev pub number_if : Option Value → Option (Option Float)
number_if None = Some None
number_if (Some v) = option_map Some (number_of (view v))

-- the number of a member that has to be there
abbrev pub required_number : Option Value → Option Float
required_number None = None
required_number (Some v) = number_of (view v)

-- what comes of numbers, where they are there
abbrev pub given : {A B : Type 0} → Option A → (A → Option B) → Option B
given None next = None
given (Some x) next = next x
