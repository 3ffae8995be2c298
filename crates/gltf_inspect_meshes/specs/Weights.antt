-- Weights of morph targets (glTF 2.0, section 3.7.2.2): "the number of array elements MUST match
-- the number of morph targets".
use Rattle.std.specs.Prelude.{ℕ, ◌==◌, Bool, true, Option, Some, None}
use Rattle.serde_json.specs.Data.{Data, Items}
use Rattle.serde_json.specs.Events.{items_len}
use Rattle.serde_json.specs.Find.{as_array}

abbrev pub has_len : ℕ → Option Items → Bool
has_len count None = true
has_len count (Some items) = items_len items == count

-- a list has so many elements; what is no list is not asked
abbrev pub is_list_of : ℕ → Data → Bool
is_list_of count value = has_len count (as_array value)
