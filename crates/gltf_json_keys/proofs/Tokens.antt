-- The tokens of a text, and the value that is read of them: its names are keys among the tokens.
use Rattle.std.proofs.Common.{◌≡◌, ℕ, zero, suc, List, [], ◌∷◌, length, Bool, true, false}
use Rattle.std.proofs.Common.{Option, Some, None, option_and_then}
use Rattle.std.specs.Prelude.{⊤}
use Rattle.json.specs.Token.{Token, begin_object, end_object, begin_array, end_array, key, string}
use Rattle.json.specs.Token.{number, boolean, null, bad}
use Rattle.json.specs.Lex.{Lexeme, token, comma, colon, begins_colon, Place, fresh, after_value}
use Rattle.json.specs.Lex.{after_comma, after_key, may_begin, may_close, if_allowed, place_token}
use Rattle.json.specs.Lex.{punctuate}
use Rattle.json.specs.Json as json
use Rattle.json.specs.Json.{Json, Parse, parse_map, after_end_array, read_key, items_step}
use Rattle.json.specs.Json.{members_step, items, members, value_with, value}
use Rattle.gltf_json_keys.specs.Passed.{JsonLacks, JsonItemsLack, JsonMembersLack}
use Rattle.gltf_json_keys.proofs.Texts.{IsNot, NoneIs}

module _ (k : List ℕ) where
  -- the token is no key k
  abbrev pub IsNoKey : Token → Type 0
  IsNoKey begin_object = ⊤
  IsNoKey end_object = ⊤
  IsNoKey begin_array = ⊤
  IsNoKey end_array = ⊤
  IsNoKey (key s) = s ≡ k → ⊥
  IsNoKey (string s) = ⊤
  IsNoKey (number s) = ⊤
  IsNoKey (boolean b) = ⊤
  IsNoKey null = ⊤
  IsNoKey bad = ⊤

  abbrev pub NoKey : List Token → Type 0
  NoKey [] = ⊤
  NoKey (t ∷ ts) = IsNoKey t × NoKey ts

  allowed : (b : Bool) (t : Token) (go : Place → List Token) (next : Place) → IsNoKey t
      → NoKey (go next) → NoKey (if_allowed b t go next)
  allowed true t go next is rest = (is, rest)
  allowed false t go next is rest = (tt, tt)

  place_holds : (p : Place) (t : Token) (c : Bool) (go : Place → List Token) → IsNot k t
      → ((next : Place) → NoKey (go next)) → NoKey (place_token p t c go)
  place_holds p begin_object c go is rest =
      allowed (may_begin p) begin_object go fresh tt (rest fresh)
  place_holds p end_object c go is rest =
      allowed (may_close p) end_object go after_value tt (rest after_value)
  place_holds p begin_array c go is rest =
      allowed (may_begin p) begin_array go fresh tt (rest fresh)
  place_holds p end_array c go is rest =
      allowed (may_close p) end_array go after_value tt (rest after_value)
  place_holds p (key s) c go is rest = (tt, tt)
  place_holds p (string s) true go is rest =
      allowed (may_begin p) (key s) go after_key is (rest after_key)
  place_holds p (string s) false go is rest =
      allowed (may_begin p) (string s) go after_value tt (rest after_value)
  place_holds p (number s) c go is rest =
      allowed (may_begin p) (number s) go after_value tt (rest after_value)
  place_holds p (boolean b) c go is rest =
      allowed (may_begin p) (boolean b) go after_value tt (rest after_value)
  place_holds p null c go is rest =
      allowed (may_begin p) null go after_value tt (rest after_value)
  place_holds p bad c go is rest = (tt, tt)

  pub tokens_hold : (p : Place) (ls : List Lexeme) → NoneIs k ls → NoKey (punctuate p ls)
  unfolding punctuate
  tokens_hold fresh [] none = tt
  tokens_hold after_value [] none = tt
  tokens_hold after_comma [] none = (tt, tt)
  tokens_hold after_key [] none = (tt, tt)
  tokens_hold fresh (token t ∷ ls) none =
      place_holds fresh t (begins_colon ls) (λ next. punctuate next ls) none.0
      (λ next. tokens_hold next ls none.1)
  tokens_hold after_value (token t ∷ ls) none =
      place_holds after_value t (begins_colon ls) (λ next. punctuate next ls) none.0
      (λ next. tokens_hold next ls none.1)
  tokens_hold after_comma (token t ∷ ls) none =
      place_holds after_comma t (begins_colon ls) (λ next. punctuate next ls) none.0
      (λ next. tokens_hold next ls none.1)
  tokens_hold after_key (token t ∷ ls) none =
      place_holds after_key t (begins_colon ls) (λ next. punctuate next ls) none.0
      (λ next. tokens_hold next ls none.1)
  tokens_hold fresh (comma ∷ ls) none = (tt, tt)
  tokens_hold after_value (comma ∷ ls) none = tokens_hold after_comma ls none
  tokens_hold after_comma (comma ∷ ls) none = (tt, tt)
  tokens_hold after_key (comma ∷ ls) none = (tt, tt)
  tokens_hold fresh (colon ∷ ls) none = (tt, tt)
  tokens_hold after_value (colon ∷ ls) none = (tt, tt)
  tokens_hold after_comma (colon ∷ ls) none = (tt, tt)
  tokens_hold after_key (colon ∷ ls) none = tokens_hold fresh ls none

  -- ---- the value

  -- what was read has P, and no key k is left
  abbrev pub Has : {A : Type 0} → (A → Type 0) → Option (A × List Token) → Type 0
  Has P None = ⊤
  Has P (Some p) = P p.0 × NoKey p.1

  abbrev pub Reads : {A : Type 0} → (A → Type 0) → Parse A → Type 0
  Reads P parse = (ts : List Token) → NoKey ts → Has P (parse ts)

  mapped : {A B : Type 0} (P : A → Type 0) (Q : B → Type 0) (h : A → B)
      → ((a : A) → P a → Q (h a)) → (o : Option (A × List Token)) → Has P o
      → Has Q (parse_map h o)
  mapped P Q h keeps None has = tt
  mapped P Q h keeps (Some p) has = (keeps p.0 has.0, has.1)

  and_more : {B : Type 0} (Q : B → Type 0) (h : Json → B → B) (more : Parse B)
      → ((j : Json) (b : B) → JsonLacks k j → Q b → Q (h j b)) → Reads Q more
      → (o : Option (Json × List Token)) → Has (JsonLacks k) o
      → Has Q (option_and_then (λ q. parse_map (h q.0) (more q.1)) o)
  and_more Q h more keeps reads None has = tt
  and_more Q h more keeps reads (Some q) has =
      mapped Q Q (h q.0) (λ b y. keeps q.0 b has.0 y) _ (reads q.1 has.1)

  abbrev Left : Option (List Token) → Type 0
  Left None = ⊤
  Left (Some ts) = NoKey ts

  after_end : (ts : List Token) → NoKey ts → Left (after_end_array ts)
  after_end [] none = tt
  after_end (begin_object ∷ ts) none = tt
  after_end (end_object ∷ ts) none = tt
  after_end (begin_array ∷ ts) none = tt
  after_end (end_array ∷ ts) none = none.1
  after_end (key s ∷ ts) none = tt
  after_end (string s ∷ ts) none = tt
  after_end (number s ∷ ts) none = tt
  after_end (boolean b ∷ ts) none = tt
  after_end (null ∷ ts) none = tt
  after_end (bad ∷ ts) none = tt

  -- the key that was read is not k
  abbrev IsOther : Option (List ℕ) → Type 0
  IsOther None = ⊤
  IsOther (Some l) = l ≡ k → ⊥

  after_key_read : (ts : List Token) → NoKey ts → Has IsOther (read_key ts)
  after_key_read [] none = tt
  after_key_read (begin_object ∷ ts) none = tt
  after_key_read (end_object ∷ ts) none = (tt, none.1)
  after_key_read (begin_array ∷ ts) none = tt
  after_key_read (end_array ∷ ts) none = tt
  after_key_read (key s ∷ ts) none = (none.0, none.1)
  after_key_read (string s ∷ ts) none = tt
  after_key_read (number s ∷ ts) none = tt
  after_key_read (boolean b ∷ ts) none = tt
  after_key_read (null ∷ ts) none = tt
  after_key_read (bad ∷ ts) none = tt

  item_turn : (p : Parse Json) (more : Parse json.Items) → Reads (JsonLacks k) p
      → Reads (JsonItemsLack k) more → (ts : List Token) → NoKey ts → (o : Option (List Token))
      → Left o → Has (JsonItemsLack k) (items_step p more ts o)
  item_turn p more reads again ts none (Some r) left = (tt, left)
  item_turn p more reads again ts none None left =
      and_more (JsonItemsLack k) json.item more (λ j b x y. (x, y)) again (p ts) (reads ts none)

  items_hold : (p : Parse Json) → Reads (JsonLacks k) p → (n : ℕ) → Reads (JsonItemsLack k) (items p n)
  unfolding items
  items_hold p reads zero ts none = tt
  items_hold p reads (suc n) ts none =
      item_turn p (items p n) reads (items_hold p reads n) ts none (after_end_array ts)
      (after_end ts none)

  member_turn : (p : Parse Json) (more : Parse json.Members) → Reads (JsonLacks k) p
      → Reads (JsonMembersLack k) more → (o : Option (Option (List ℕ) × List Token)) → Has IsOther o
      → Has (JsonMembersLack k) (option_and_then (λ q. members_step p more q.0 q.1) o)
  member_turn p more reads again None has = tt
  member_turn p more reads again (Some (None, s)) has = (tt, has.1)
  member_turn p more reads again (Some (Some l, s)) has =
      and_more (JsonMembersLack k) (json.member l) more (λ j b x y. (has.0, x, y)) again (p s)
      (reads s has.1)

  members_hold : (p : Parse Json) → Reads (JsonLacks k) p → (n : ℕ)
      → Reads (JsonMembersLack k) (members p n)
  unfolding members
  members_hold p reads zero ts none = tt
  members_hold p reads (suc n) ts none =
      member_turn p (members p n) reads (members_hold p reads n) (read_key ts)
      (after_key_read ts none)

  one_level : (a : Parse json.Items) (o : Parse json.Members)
      → ((ts : List Token) → NoKey ts → Has (JsonLacks k) (parse_map json.array (a ts)))
      → ((ts : List Token) → NoKey ts → Has (JsonLacks k) (parse_map json.object (o ts)))
      → Reads (JsonLacks k) (value_with a o)
  one_level a o of_array of_object [] none = tt
  one_level a o of_array of_object (begin_object ∷ ts) none = of_object ts none.1
  one_level a o of_array of_object (end_object ∷ ts) none = tt
  one_level a o of_array of_object (begin_array ∷ ts) none = of_array ts none.1
  one_level a o of_array of_object (end_array ∷ ts) none = tt
  one_level a o of_array of_object (key s ∷ ts) none = tt
  one_level a o of_array of_object (string s ∷ ts) none = (tt, none.1)
  one_level a o of_array of_object (number s ∷ ts) none = (tt, none.1)
  one_level a o of_array of_object (boolean b ∷ ts) none = (tt, none.1)
  one_level a o of_array of_object (null ∷ ts) none = (tt, none.1)
  one_level a o of_array of_object (bad ∷ ts) none = tt

  pub value_holds : (d : ℕ) → Reads (JsonLacks k) (value d)
  unfolding value
  value_holds zero = one_level (λ ts. None) (λ ts. None) (λ ts none. tt) (λ ts none. tt)
  value_holds (suc d) =
      one_level (λ ts. items (value d) (length ts) ts) (λ ts. members (value d) (length ts) ts)
      (λ ts none. mapped (JsonItemsLack k) (JsonLacks k) json.array (λ js x. x) _
      (items_hold (value d) (value_holds d) (length ts) ts none))
      (λ ts none. mapped (JsonMembersLack k) (JsonLacks k) json.object (λ ms x. x) _
      (members_hold (value d) (value_holds d) (length ts) ts none))
