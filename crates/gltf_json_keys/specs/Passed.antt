-- What is passed over among the tokens of a text, and what it lacks (RFC 8259, sections 3 to 5).
use Rattle.std.specs.Prelude.{◌≡◌, ◌≢◌, ℕ, List, ⊤, Some, true}
use Rattle.json.specs.Token.{Token}
use Rattle.json.specs.Json.{Json, null, boolean, number, string, array, object, Items, no_items, item}
use Rattle.json.specs.Json.{Members, no_members, member, value}
use Rattle.gltf_json_keys.specs.Keys.{is_among}

-- no object in a value of a text, however deep, has a member of this name
abbrev mutual
  pub JsonLacks : List ℕ → Json → Type 0
  JsonLacks name null = ⊤
  JsonLacks name (boolean b) = ⊤
  JsonLacks name (number s) = ⊤
  JsonLacks name (string s) = ⊤
  JsonLacks name (array js) = JsonItemsLack name js
  JsonLacks name (object ms) = JsonMembersLack name ms

  pub JsonItemsLack : List ℕ → Items → Type 0
  JsonItemsLack name no_items = ⊤
  JsonItemsLack name (item j js) = JsonLacks name j × JsonItemsLack name js

  pub JsonMembersLack : List ℕ → Members → Type 0
  JsonMembersLack name no_members = ⊤
  JsonMembersLack name (member its j ms) =
      (its ≢ name) × JsonLacks name j × JsonMembersLack name ms

-- those members of an object that have one of these names lack it
abbrev pub JsonPartsLack : List (List ℕ) → List ℕ → Members → Type 0
JsonPartsLack parts name no_members = ⊤
JsonPartsLack parts name (member its j ms) =
    (is_among parts its ≡ true → JsonLacks name j) × JsonPartsLack parts name ms

-- a value that has P comes next, and `rest` are the tokens after it
abbrev pub Next : (Json → Type 0) → ℕ → List Token → List Token → Type 0
Next P depth ts rest = (j : Json) × (value depth ts ≡ Some (j, rest)) × P j

-- an object whose parts lack the name comes next, and `rest` are the tokens after it
abbrev pub NextObject : List (List ℕ) → List ℕ → ℕ → List Token → List Token → Type 0
NextObject parts name depth ts rest = (ms : Members) × (value depth ts ≡ Some (object ms, rest))
    × JsonPartsLack parts name ms
