-- The value that comes next among the tokens of a text.
use Rattle.std.specs.Prelude.{◌≡◌, ℕ, List, Option, Some, None, MatchOption}
use Rattle.json.specs.Token.{Token}
use Rattle.json.specs.Json.{value}
use Rattle.serde_json.specs.Data.{Data}
use Rattle.serde_json.specs.Read.{of_json, converted}
use Rattle.serde_json.specs.View.{view}
use Rattle.serde_json.specs.declared.value.Value.{Value}

-- the value that comes first, as `serde_json` reads it, and the tokens after it; arrays and objects
-- nest no deeper than `depth` in it
abbrev pub data_at : ℕ → List Token → Option (Data × List Token)
data_at depth ts = converted of_json (value depth ts)

-- `found` is that value, and `rest` the tokens after it; or no value comes first
abbrev pub IsNext : ℕ → List Token → Option Value → List Token → Type 0
IsNext depth ts found rest = MatchOption found (data_at depth ts ≡ None)
    (λ v. data_at depth ts ≡ Some (view v, rest))
