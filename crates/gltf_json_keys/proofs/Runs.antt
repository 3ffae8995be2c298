-- Values, and members, that come one after another among the tokens of a text, and what they amount
-- to: an array, or an object.
use Rattle.std.proofs.Common.{◌≡◌, ◌-◌, ◌<◌, ◌≤◌, ℕ, List, [], ◌∷◌, ◌++◌, length, Option, Some, None}
use Rattle.std.proofs.Common.{refl, sym, ap, ◌∙◌, arith}
use Rattle.std.specs.Prelude.{⊤, ◌≢◌, map, true, bytes_eq, ◌||◌}
use Rattle.std.specs.Borrow.{Bor}
use Rattle.std.specs.List.{list_any}
use Rattle.std.proofs.Common.{ap₂}
use Rattle.std.proofs.lemmas.Cmp.{nat_list_eq_equiv}
use Rattle.json.specs.Token.{Token}
use Rattle.json.specs.Json.{Json, array, object, Items, no_items, item, Members, no_members, member}
use Rattle.json.specs.Json.{parse_map, after_end_array, read_key, items, members, value}
use Rattle.json.proofs.Grammar.{left, value_is, value-begin_array, value-begin_object}
use Rattle.json.proofs.Grammar.{items_end, items_more, members_end, members_more}
use Rattle.json.proofs.Grammar.{read_key-shorter, skip_value-shorter}
use Rattle.gltf_json_keys.specs.Keys.{is_among}
use Rattle.gltf_json_keys.specs.Passed.{JsonLacks, JsonItemsLack, JsonMembersLack}
use Rattle.gltf_json_keys.specs.Passed.{JsonPartsLack, Next, NextObject}

-- a value takes at least one token
pub next-shorter : (P : Json → Type 0) (depth : ℕ) (ts rest : List Token) → Next P depth ts rest
    → length rest < length ts
next-shorter P depth ts rest next = skip_value-shorter depth ts rest (ap left next.1)

-- ---- values

module _ (P : Json → Type 0) where
  -- the values js come first, and `rest` are the tokens after them
  abbrev pub Run : ℕ → List Token → List Json → List Token → Type 0
  Run depth ts [] rest = ts ≡ rest
  Run depth ts (j ∷ js) rest =
      (after : List Token) × (value depth ts ≡ Some (j, after)) × P j × Run depth after js rest

  abbrev pub AllItems : Items → Type 0
  AllItems no_items = ⊤
  AllItems (item j js) = P j × AllItems js

  pub run-push : (depth : ℕ) (ts : List Token) (js : List Json) (rest : List Token) (j : Json)
      (after : List Token) → Run depth ts js rest → value depth rest ≡ Some (j, after) → P j
      → Run depth ts (js ++ j ∷ []) after
  run-push depth ts [] rest j after run e has = (after, ap (value depth) run ∙ e, has, refl)
  run-push depth ts (x ∷ js) rest j after run e has =
      (run.0, run.1, run.2, run-push depth run.0 js rest j after run.3 e has)

  -- no value begins with the bracket that closes an array
  goes_on : (depth : ℕ) (ts : List Token) (j : Json) (after : List Token)
      → value depth ts ≡ Some (j, after) → after_end_array ts ≡ None
  goes_on depth [] j after e = refl
  goes_on depth (Token.begin_object ∷ ts) j after e = refl
  goes_on depth (Token.end_object ∷ ts) j after e = refl
  goes_on depth (Token.begin_array ∷ ts) j after e = refl
  goes_on depth (Token.end_array ∷ ts) j after e =
      let none : ◌≡◌ {A = Option (Json × List Token)} None (Some (j, after)) =
      sym (value_is depth (Token.end_array ∷ ts)) ∙ e in
      absurd (cc)
  goes_on depth (Token.key s ∷ ts) j after e = refl
  goes_on depth (Token.string s ∷ ts) j after e = refl
  goes_on depth (Token.number s ∷ ts) j after e = refl
  goes_on depth (Token.boolean b ∷ ts) j after e = refl
  goes_on depth (Token.null ∷ ts) j after e = refl
  goes_on depth (Token.bad ∷ ts) j after e = refl

  items_closed : (depth n : ℕ) (ts : List Token) (js : List Json) (rest end : List Token)
      → length ts ≤ n → Run depth ts js rest → after_end_array rest ≡ Some end
      → (all : Items) × (items (value depth) n ts ≡ Some (all, end)) × AllItems all
  items_closed depth n ts [] rest end enough run closes =
      (no_items, items_end (value depth) n ts end enough (ap after_end_array run ∙ closes), tt)
  items_closed depth n ts (j ∷ js) rest end enough run closes =
      let less : length run.0 < length ts = skip_value-shorter depth ts run.0 (ap left run.1) in
      let others = items_closed depth (n - 1) run.0 js rest end (omega arith) run.3 closes in (
        item j others.0,
        items_more (value depth) n ts run.0 j (omega arith) (goes_on depth ts j run.0 run.1)
            run.1
            ∙ ap (parse_map (item j)) others.1,
        (run.2, others.2),
      )

  -- values with the bracket that closes them are an array
  pub array_closed : (depth : ℕ) (ts : List Token) (js : List Json) (rest end : List Token)
      → 0 < depth → Run (depth - 1) ts js rest → after_end_array rest ≡ Some end
      → (all : Items) × (value depth (Token.begin_array ∷ ts) ≡ Some (array all, end))
      × AllItems all
  array_closed depth ts js rest end some run closes =
      let all = items_closed (depth - 1) (length ts) ts js rest end (omega arith) run closes in (
        all.0,
        value-begin_array depth ts some ∙ ap (parse_map array) all.1,
        all.2,
      )

-- ---- members

module _ (P : List ℕ → Json → Type 0) where
  -- the members ms come first, each a name and a value
  abbrev pub Named : ℕ → List Token → List (List ℕ × Json) → List Token → Type 0
  Named depth ts [] rest = ts ≡ rest
  Named depth ts (m ∷ ms) rest = (colon : List Token) × (after : List Token)
      × (read_key ts ≡ Some (Some m.0, colon)) × (value depth colon ≡ Some (m.1, after))
      × P m.0 m.1 × Named depth after ms rest

  abbrev pub AllMembers : Members → Type 0
  AllMembers no_members = ⊤
  AllMembers (member its j ms) = P its j × AllMembers ms

  pub named-push : (depth : ℕ) (ts : List Token) (ms : List (List ℕ × Json)) (rest : List Token)
      (its : List ℕ) (j : Json) (colon after : List Token) → Named depth ts ms rest
      → read_key rest ≡ Some (Some its, colon) → value depth colon ≡ Some (j, after) → P its j
      → Named depth ts (ms ++ (its, j) ∷ []) after
  named-push depth ts [] rest its j colon after run named e has =
      (colon, after, ap read_key run ∙ named, e, has, refl)
  named-push depth ts (m ∷ ms) rest its j colon after run named e has = (
    run.0,
    run.1,
    run.2,
    run.3,
    run.4,
    named-push depth run.1 ms rest its j colon after run.5 named e has,
  )

  members_closed : (depth n : ℕ) (ts : List Token) (ms : List (List ℕ × Json))
      (rest end : List Token) → length ts ≤ n → Named depth ts ms rest
      → read_key rest ≡ Some (None, end)
      → (all : Members) × (members (value depth) n ts ≡ Some (all, end)) × AllMembers all
  members_closed depth n ts [] rest end enough run closes =
      (no_members, members_end (value depth) n ts end enough (ap read_key run ∙ closes), tt)
  members_closed depth n ts (m ∷ ms) rest end enough run closes =
      let key : length run.0 < length ts = read_key-shorter ts (Some m.0) run.0 run.2 in
      let less : length run.1 < length run.0 =
      skip_value-shorter depth run.0 run.1 (ap left run.3) in
      let others = members_closed depth (n - 1) run.1 ms rest end (omega arith) run.5 closes in (
        member m.0 m.1 others.0,
        members_more (value depth) n m.0 ts run.0 run.1 m.1 (omega arith) run.2 run.3
            ∙ ap (parse_map (member m.0 m.1)) others.1,
        (run.4, others.2),
      )

  -- members with the brace that closes them are an object
  pub object_closed : (depth : ℕ) (ts : List Token) (ms : List (List ℕ × Json))
      (rest end : List Token) → 0 < depth → Named (depth - 1) ts ms rest
      → read_key rest ≡ Some (None, end)
      → (all : Members) × (value depth (Token.begin_object ∷ ts) ≡ Some (object all, end))
      × AllMembers all
  object_closed depth ts ms rest end some run closes =
      let all = members_closed (depth - 1) (length ts) ts ms rest end (omega arith) run closes in (
        all.0,
        value-begin_object depth ts some ∙ ap (parse_map object) all.1,
        all.2,
      )

-- ---- what lacks a name

items_lack : (name : List ℕ) (js : Items) → AllItems (JsonLacks name) js → JsonItemsLack name js
items_lack name no_items all = tt
items_lack name (item j js) all = (all.0, items_lack name js all.1)

members_lack : (name : List ℕ) (ms : Members)
    → AllMembers (λ its j. (its ≢ name) × JsonLacks name j) ms → JsonMembersLack name ms
members_lack name no_members all = tt
members_lack name (member its j ms) all = (all.0.0, all.0.1, members_lack name ms all.1)

parts_lack : (parts : List (List ℕ)) (name : List ℕ) (ms : Members)
    → AllMembers (λ its j. is_among parts its ≡ true → JsonLacks name j) ms
    → JsonPartsLack parts name ms
parts_lack parts name no_members all = tt
parts_lack parts name (member its j ms) all = (all.0, parts_lack parts name ms all.1)

pub next_array : (name : List ℕ) (depth : ℕ) (ts : List Token) (js : List Json)
    (rest end : List Token) → 0 < depth → Run (JsonLacks name) (depth - 1) ts js rest
    → after_end_array rest ≡ Some end → Next (JsonLacks name) depth (Token.begin_array ∷ ts) end
next_array name depth ts js rest end some run closes =
    let found = array_closed (JsonLacks name) depth ts js rest end some run closes in
    (array found.0, found.1, items_lack name found.0 found.2)

pub next_object : (name : List ℕ) (depth : ℕ) (ts : List Token) (ms : List (List ℕ × Json))
    (rest end : List Token) → 0 < depth
    → Named (λ its j. (its ≢ name) × JsonLacks name j) (depth - 1) ts ms rest
    → read_key rest ≡ Some (None, end) → Next (JsonLacks name) depth (Token.begin_object ∷ ts) end
next_object name depth ts ms rest end some run closes =
    let found = object_closed (λ its j. (its ≢ name) × JsonLacks name j) depth ts ms rest end some
    run closes in
    (object found.0, found.1, members_lack name found.0 found.2)

pub whole_object : (parts : List (List ℕ)) (name : List ℕ) (ts : List Token)
    (ms : List (List ℕ × Json)) (rest end : List Token)
    → Named (λ its j. is_among parts its ≡ true → JsonLacks name j) 126 ts ms rest
    → read_key rest ≡ Some (None, end) → NextObject parts name 127 (Token.begin_object ∷ ts) end
whole_object parts name ts ms rest end run closes =
    let found = object_closed (λ its j. is_among parts its ≡ true → JsonLacks name j) 127 ts ms
    rest end (omega arith) run closes in
    (found.0, found.1, parts_lack parts name found.0 found.2)

-- ---- whether a name is among others, as `contains` finds it

pub found_or_not : (names : List (Bor (List ℕ))) (its : List ℕ)
    → list_any (λ k. bytes_eq k.now its) names ≡ is_among (map (λ k. k.now) names) its
found_or_not [] its = refl
found_or_not (k ∷ names) its =
    ap₂ (λ a b. a || b) (nat_list_eq_equiv.symm k.now its) (found_or_not names its)
