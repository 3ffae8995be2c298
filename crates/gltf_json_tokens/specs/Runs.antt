-- Values, and members, that come one after another among the tokens of a text.
use Rattle.std.specs.Prelude.{◌≡◌, ℕ, List, [], ◌∷◌, Some}
use Rattle.json.specs.Token.{Token}
use Rattle.json.specs.Json.{read_key}
use Rattle.serde_json.specs.Data.{Data, Members, put}
use Rattle.gltf_json_tokens.specs.Tokens.{data_at}

-- the values ds come first, and `rest` are the tokens after them
abbrev pub Items : ℕ → List Token → List Data → List Token → Type 0
Items depth ts [] rest = ts ≡ rest
Items depth ts (d ∷ ds) rest = (after : List Token) × (data_at depth ts ≡ Some (d, after))
    × Items depth after ds rest

-- the members ms come first, each a name and a value
abbrev pub Named : ℕ → List Token → List (List ℕ × Data) → List Token → Type 0
Named depth ts [] rest = ts ≡ rest
Named depth ts (m ∷ ms) rest = (colon : List Token) × (after : List Token)
    × (read_key ts ≡ Some (Some m.0, colon)) × (data_at depth colon ≡ Some (m.1, after))
    × Named depth after ms rest

-- the members of an object into which ms go, one after another
abbrev pub put_all : List (List ℕ × Data) → Members → Members
put_all [] old = old
put_all (m ∷ ms) old = put_all ms (put m.0 m.1 old)
