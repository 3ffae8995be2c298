-- What is read at the next tokens of a text.
use Rattle.std.specs.Prelude.{◌≡◌, ◌&&◌, ℕ, List, [], ◌∷◌, Bool, true, not, Option, Some, None}
use Rattle.std.specs.Prelude.{MatchOption, IsUtf8}
use Rattle.json.specs.Token.{Token}
use Rattle.serde_json.specs.Data.{Data, Members, object, put}
use Rattle.serde_json.specs.Read.{read}
use Rattle.gltf_json_record.specs.Kind.{Kind}
use Rattle.gltf_json_record.specs.Member.{unless_null, is_one_of}
use Rattle.gltf_json_record.specs.Table.{optional}
use Rattle.gltf_json_tokens.specs.Tokens.{data_at}

-- x is the reading of the value that comes next, and `rest` are the tokens after it
abbrev pub IsPulled : {T : Type 0} → Kind T → ℕ → List Token → T → List Token → Type 0
IsPulled K depth ts x rest = (d : Data) × (data_at depth ts ≡ Some (d, rest)) × K.is d x

-- x is what a member with the value d is read as: it is absent where the value is null
abbrev pub IsMember : {T : Type 0} → Kind T → Data → Option T → Type 0
IsMember K d x = MatchOption (unless_null d) (x ≡ None) (λ e. MatchOption x ⊥ (K.is e))

-- the same of the value that comes next
abbrev pub IsMemberPulled : {T : Type 0}
    → Kind T → ℕ → List Token → Option T → List Token → Type 0
IsMemberPulled K depth ts x rest =
    (d : Data) × (data_at depth ts ≡ Some (d, rest)) × IsMember K d x

-- what has been found of the member of a name
abbrev pub found : {T : Type 0} → List ℕ → Kind T → Kind (Option T)
found name K = optional name (λ x. x) K

-- the value that comes next is the member of this name: what was found of the members before it
-- is `old`, and with it `new`
abbrev pub Takes : {F : Type 0}
    → Kind F → List ℕ → ℕ → F → List Token → F → List Token → Type 0
Takes K name depth old ts new rest = (d : Data) × (data_at depth ts ≡ Some (d, rest))
    × ((ms : Members) → K.is (object ms) old → K.is (object (put name d ms)) new)

-- no name comes twice
abbrev pub are_distinct : List (List ℕ) → Bool
are_distinct [] = true
are_distinct (name ∷ names) = not (is_one_of names name) && are_distinct names

-- x is the reading of the JSON text that the bytes are (RFC 8259, section 2)
abbrev pub IsOfText : {T : Type 0} → Kind T → List ℕ → T → Type 0
IsOfText K bytes x = IsUtf8 bytes × ((d : Data) × (read bytes ≡ Some d) × K.is d x)
