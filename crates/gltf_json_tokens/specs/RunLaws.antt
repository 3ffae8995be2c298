-- What a run of values, or of members, amounts to: an array, an object, or no value.
use Rattle.std.specs.Prelude.{ℕ, zero, suc, ◌-◌, ◌<◌, ◌≤◌, List, [], ◌∷◌, ◌++◌, length}
use Rattle.std.specs.Prelude.{Option, Some, None, option_map, option_and_then, false}
use Rattle.std.proofs.Common.{◌≡◌, refl, sym, ap, subst, ◌∙◌, arith, true≢false}
use Rattle.json.specs.Token.{Token}
use Rattle.json.specs.Json as json
use Rattle.json.specs.Json.{Json, parse_map, after_end_array, read_key, items, members, value}
use Rattle.json.specs.Reads.{opens}
use Rattle.json.proofs.Grammar.{left, value_is, value-begin_array, value-begin_object}
use Rattle.json.proofs.Grammar.{items_end, items_fail, items_more, skip_value-shorter}
use Rattle.json.proofs.Grammar.{members_end, members_no_key, members_fail, members_more}
use Rattle.json.proofs.Grammar.{read_key-shorter}
use Rattle.serde_json.specs.Data.{Data, null, boolean, number, string, array, object}
use Rattle.serde_json.specs.Data.{item, Members, no_members, put}
use Rattle.serde_json.specs.Read.{number_of, of_json, of_items, of_members, converted}
use Rattle.serde_json.specs.View.{items_of}
use Rattle.gltf_json_tokens.specs.Tokens.{data_at}
use Rattle.gltf_json_tokens.specs.Runs.{Items, Named, put_all}

-- ---- one value

beside : {B : Type 0} (x : Option B) (s : List Token) (b : B) (r : List Token)
    → option_map {U = B × List Token} (λ c. (c, s)) x ≡ Some (b, r) → (x ≡ Some b) × (s ≡ r)
beside None s b r e = absurd (cc)
beside {B} (Some c) s b r e =
    let same : ◌≡◌ {A = B × List Token} (c, s) (b, r) = cc in
    (ap (λ p. Some p.0) same, ap (λ p. p.1) same)

-- the JSON that a value was converted from
pub parsed : (depth : ℕ) (ts : List Token) (d : Data) (after : List Token)
    → data_at depth ts ≡ Some (d, after)
    → (j : Json) × (value depth ts ≡ Some (j, after)) × (of_json j ≡ Some d)
parsed depth ts d after e = go (value depth ts) e
  where
    go : (o : Option (Json × List Token)) → converted of_json o ≡ Some (d, after)
        → (j : Json) × (o ≡ Some (j, after)) × (of_json j ≡ Some d)
    go None e = absurd (cc)
    go (Some p) e = let both = beside (of_json p.0) p.1 d after e in
        (p.0, ap (λ r. Some (p.0, r)) both.1, both.0)

-- a value takes at least one token
pub data_at-shorter : (depth : ℕ) (ts : List Token) (d : Data) (after : List Token)
    → data_at depth ts ≡ Some (d, after) → length after < length ts
data_at-shorter depth ts d after e =
    skip_value-shorter depth ts after (ap left (parsed depth ts d after e).1)

-- ---- a value of one token

-- what a token stands for that opens nothing
abbrev pub alone : Token → Option Data
alone Token.begin_object = None
alone Token.end_object = None
alone Token.begin_array = None
alone Token.end_array = None
alone (Token.key s) = None
alone (Token.string s) = Some (string s)
alone (Token.number s) = option_map number (number_of s)
alone (Token.boolean b) = Some (boolean b)
alone Token.null = Some null
alone Token.bad = None

pub data_at-alone : (depth : ℕ) (t : Token) (ts : List Token) → opens (t ∷ ts) ≡ false
    → data_at depth (t ∷ ts) ≡ option_map (λ d. (d, ts)) (alone t)
data_at-alone depth Token.begin_object ts e = absurd (true≢false e)
data_at-alone depth Token.end_object ts e = ap (converted of_json) (value_is depth _)
data_at-alone depth Token.begin_array ts e = absurd (true≢false e)
data_at-alone depth Token.end_array ts e = ap (converted of_json) (value_is depth _)
data_at-alone depth (Token.key s) ts e = ap (converted of_json) (value_is depth _)
data_at-alone depth (Token.string s) ts e = ap (converted of_json) (value_is depth _)
data_at-alone depth (Token.number s) ts e = ap (converted of_json) (value_is depth _)
data_at-alone depth (Token.boolean b) ts e = ap (converted of_json) (value_is depth _)
data_at-alone depth Token.null ts e = ap (converted of_json) (value_is depth _)
data_at-alone depth Token.bad ts e = ap (converted of_json) (value_is depth _)

pub data_at-no_token : (depth : ℕ) → data_at depth [] ≡ None
data_at-no_token depth = ap (converted of_json) (value_is depth [])

-- ---- conversions that fail

none_before : {A B : Type 0} (f : A → B) (x : Option A) → option_map f x ≡ None → x ≡ None
none_before f None e = refl
none_before f (Some a) e = absurd (cc)

-- ---- values, one after another

-- no value begins with the bracket that closes an array
goes_on : (depth : ℕ) (ts : List Token) (d : Data) (after : List Token)
    → data_at depth ts ≡ Some (d, after) → after_end_array ts ≡ None
goes_on depth [] d after e = refl
goes_on depth (Token.begin_object ∷ ts) d after e = refl
goes_on depth (Token.end_object ∷ ts) d after e = refl
goes_on depth (Token.begin_array ∷ ts) d after e = refl
goes_on depth (Token.end_array ∷ ts) d after e =
    let none : ◌≡◌ {A = Option (Data × List Token)} None (Some (d, after)) =
    sym (data_at-alone depth Token.end_array ts refl) ∙ e in
    absurd (cc)
goes_on depth (Token.key s ∷ ts) d after e = refl
goes_on depth (Token.string s ∷ ts) d after e = refl
goes_on depth (Token.number s ∷ ts) d after e = refl
goes_on depth (Token.boolean b ∷ ts) d after e = refl
goes_on depth (Token.null ∷ ts) d after e = refl
goes_on depth (Token.bad ∷ ts) d after e = refl

pub Items-push : (depth : ℕ) (ts : List Token) (ds : List Data) (rest : List Token) (d : Data)
    (after : List Token) → Items depth ts ds rest → data_at depth rest ≡ Some (d, after)
    → Items depth ts (ds ++ d ∷ []) after
Items-push depth ts [] rest d after run e = (after, ap (data_at depth) run ∙ e, refl)
Items-push depth ts (x ∷ ds) rest d after run e =
    (run.0, run.1, Items-push depth run.0 ds rest d after run.2 e)

spoiled : (j : Json) (o : Option (json.Items × List Token)) → of_json j ≡ None
    → converted of_items (parse_map (json.item j) o) ≡ None
spoiled j None e = refl
spoiled j (Some p) e = rw e

either_way : (x : Option Data)
    → option_and_then (λ d. option_map (item d) None) x ≡ None
either_way None = refl
either_way (Some d) = refl

spoiled_later : (j : Json) (o : Option (json.Items × List Token)) → converted of_items o ≡ None
    → converted of_items (parse_map (json.item j) o) ≡ None
spoiled_later j None e = refl
spoiled_later j (Some p) e = rw (none_before _ (of_items p.0) e, either_way (of_json j))

unarrayed : (o : Option (json.Items × List Token)) → converted of_items o ≡ None
    → converted of_json (parse_map json.array o) ≡ None
unarrayed None e = refl
unarrayed (Some p) e = rw (none_before _ (of_items p.0) e)

module _ (depth : ℕ) where
  items_closed : (n : ℕ) (ts : List Token) (ds : List Data) (rest end : List Token)
      → length ts ≤ n → Items depth ts ds rest → after_end_array rest ≡ Some end
      → (js : json.Items) × (items (value depth) n ts ≡ Some (js, end))
      × (of_items js ≡ Some (items_of ds))
  items_closed n ts [] rest end enough run closes =
      let closed : after_end_array ts ≡ Some end = ap after_end_array run ∙ closes in
      (json.no_items, items_end (value depth) n ts end enough closed, refl)
  items_closed n ts (d ∷ ds) rest end enough run closes =
      let first = parsed depth ts d run.0 run.1 in
      let less : length run.0 < length ts = data_at-shorter depth ts d run.0 run.1 in
      let others = items_closed (n - 1) run.0 ds rest end (omega arith) run.2 closes in (
        json.item first.0 others.0,
        items_more (value depth) n ts run.0 first.0 (omega arith)
            (goes_on depth ts d run.0 run.1) first.1
            ∙ ap (parse_map (json.item first.0)) others.1,
        rw (first.2, others.2),
      )

  -- a value that does not come
  items_without : (n : ℕ) (ts : List Token) (o : Option (Json × List Token)) → value depth ts ≡ o
      → converted of_json o ≡ None → after_end_array ts ≡ None
      → converted of_items (items (value depth) n ts) ≡ None
  unfolding items
  items_without n ts None is e going =
      ap (converted of_items) (items_fail (value depth) n ts going is)
  items_without zero ts (Some p) is e going = refl
  items_without (suc n) ts (Some p) is e going =
      ap (converted of_items) (items_more (value depth) (suc n) ts p.1 p.0 (omega arith) going is)
      ∙ spoiled p.0 _ (none_before _ (of_json p.0) e)

  items_broken : (n : ℕ) (ts : List Token) (ds : List Data) (rest : List Token)
      → Items depth ts ds rest → after_end_array rest ≡ None → data_at depth rest ≡ None
      → converted of_items (items (value depth) n ts) ≡ None
  unfolding items
  items_broken n ts [] rest run going e =
      items_without n ts _ refl (ap (data_at depth) run ∙ e) (ap after_end_array run ∙ going)
  items_broken zero ts (d ∷ ds) rest run going e = refl
  items_broken (suc n) ts (d ∷ ds) rest run going e =
      let first = parsed depth ts d run.0 run.1 in
      let goes : after_end_array ts ≡ None = goes_on depth ts d run.0 run.1 in
      ap (converted of_items)
      (items_more (value depth) (suc n) ts run.0 first.0 (omega arith) goes first.1)
      ∙ spoiled_later first.0 _ (items_broken (suc n - 1) run.0 ds rest run.2 going e)

-- an array is a run of values with its closing bracket
pub array_closed : (depth : ℕ) (ts : List Token) (ds : List Data) (rest end : List Token)
    → 0 < depth → Items (depth - 1) ts ds rest → after_end_array rest ≡ Some end
    → data_at depth (Token.begin_array ∷ ts) ≡ Some (array (items_of ds), end)
array_closed depth ts ds rest end some run closes =
    let all = items_closed (depth - 1) (length ts) ts ds rest end (omega arith) run closes in
    ap (converted of_json) (value-begin_array depth ts some ∙ ap (parse_map json.array) all.1)
    ∙ ap (λ o. option_map (λ d. (d, end)) (option_map array o)) all.2

-- where neither a bracket nor a value follows there is no array
pub array_broken : (depth : ℕ) (ts : List Token) (ds : List Data) (rest : List Token)
    → 0 < depth → Items (depth - 1) ts ds rest → after_end_array rest ≡ None
    → data_at (depth - 1) rest ≡ None → data_at depth (Token.begin_array ∷ ts) ≡ None
array_broken depth ts ds rest some run going e =
    ap (converted of_json) (value-begin_array depth ts some)
    ∙ unarrayed (items (value (depth - 1)) (length ts) ts)
    (items_broken (depth - 1) (length ts) ts ds rest run going e)

-- ---- members, one after another

pub Named-push : (depth : ℕ) (ts : List Token) (ms : List (List ℕ × Data)) (rest : List Token)
    (k : List ℕ) (d : Data) (colon after : List Token) → Named depth ts ms rest
    → read_key rest ≡ Some (Some k, colon) → data_at depth colon ≡ Some (d, after)
    → Named depth ts (ms ++ (k, d) ∷ []) after
Named-push depth ts [] rest k d colon after run named e =
    (colon, after, ap read_key run ∙ named, e, refl)
Named-push depth ts (m ∷ ms) rest k d colon after run named e =
    (run.0, run.1, run.2, run.3, Named-push depth run.1 ms rest k d colon after run.4 named e)

pub put_all-push : (ms : List (List ℕ × Data)) (k : List ℕ) (d : Data) (old : Members)
    → put_all (ms ++ (k, d) ∷ []) old ≡ put k d (put_all ms old)
put_all-push [] k d old = refl
put_all-push (m ∷ ms) k d old = put_all-push ms k d (put m.0 m.1 old)

spoiled_member : (k : List ℕ) (j : Json) (o : Option (json.Members × List Token)) (old : Members)
    → of_json j ≡ None → converted (λ js. of_members js old) (parse_map (json.member k j) o) ≡ None
spoiled_member k j None old e = refl
spoiled_member k j (Some p) old e = rw e

after_member : (k : List ℕ) (j : Json) (d : Data) (o : Option (json.Members × List Token))
    (old : Members) → of_json j ≡ Some d
    → converted (λ js. of_members js old) (parse_map (json.member k j) o)
    ≡ converted (λ js. of_members js (put k d old)) o
after_member k j d None old e = refl
after_member k j d (Some p) old e = rw e

unobjected : (o : Option (json.Members × List Token))
    → converted (λ js. of_members js no_members) o ≡ None
    → converted of_json (parse_map json.object o) ≡ None
unobjected None e = refl
unobjected (Some p) e = rw (none_before _ (of_members p.0 no_members) e)

module _ (depth : ℕ) where
  -- no members come, whatever was there before
  abbrev NoMembers : List Token → Type 0
  NoMembers ts = (n : ℕ) (old : Members)
      → converted (λ js. of_members js old) (members (value depth) n ts) ≡ None

  members_closed : (n : ℕ) (ts : List Token) (ms : List (List ℕ × Data)) (rest end : List Token)
      → length ts ≤ n → Named depth ts ms rest → read_key rest ≡ Some (None, end)
      → (js : json.Members) × (members (value depth) n ts ≡ Some (js, end))
      × ((old : Members) → of_members js old ≡ Some (put_all ms old))
  members_closed n ts [] rest end enough run closes =
      let closed : read_key ts ≡ Some (None, end) = ap read_key run ∙ closes in
      (json.no_members, members_end (value depth) n ts end enough closed, λ old. refl)
  members_closed n ts (m ∷ ms) rest end enough run closes =
      let first = parsed depth run.0 m.1 run.1 run.3 in
      let key : length run.0 < length ts = read_key-shorter ts (Some m.0) run.0 run.2 in
      let less : length run.1 < length run.0 = data_at-shorter depth run.0 m.1 run.1 run.3 in
      let others = members_closed (n - 1) run.1 ms rest end (omega arith) run.4 closes in (
        json.member m.0 first.0 others.0,
        members_more (value depth) n m.0 ts run.0 run.1 first.0 (omega arith) run.2 first.1
            ∙ ap (parse_map (json.member m.0 first.0)) others.1,
        λ old. rw first.2 (others.2 (put m.0 m.1 old)),
      )

  no_key : (ts : List Token) → read_key ts ≡ None → NoMembers ts
  no_key ts e n old = ap (converted (λ js. of_members js old)) (members_no_key (value depth) n ts e)

  members_without : (n : ℕ) (old : Members) (ts : List Token) (k : List ℕ) (colon : List Token)
      (o : Option (Json × List Token)) → read_key ts ≡ Some (Some k, colon)
      → value depth colon ≡ o → converted of_json o ≡ None
      → converted (λ js. of_members js old) (members (value depth) n ts) ≡ None
  unfolding members
  members_without n old ts k colon None named is e =
      ap (converted (λ js. of_members js old)) (members_fail (value depth) n k ts colon named is)
  members_without zero old ts k colon (Some p) named is e = refl
  members_without (suc n) old ts k colon (Some p) named is e =
      ap (converted (λ js. of_members js old))
      (members_more (value depth) (suc n) k ts colon p.1 p.0 (omega arith) named is)
      ∙ spoiled_member k p.0 _ old (none_before _ (of_json p.0) e)

  no_value : (ts : List Token) (k : List ℕ) (colon : List Token)
      → read_key ts ≡ Some (Some k, colon) → data_at depth colon ≡ None → NoMembers ts
  no_value ts k colon named e n old = members_without n old ts k colon _ named refl e

  members_broken : (ts : List Token) (ms : List (List ℕ × Data)) (rest : List Token)
      → Named depth ts ms rest → NoMembers rest → NoMembers ts
  unfolding members
  members_broken ts [] rest run none n old = subst NoMembers (sym run) none n old
  members_broken ts (m ∷ ms) rest run none zero old = refl
  members_broken ts (m ∷ ms) rest run none (suc n) old =
      let first = parsed depth run.0 m.1 run.1 run.3 in
      ap (converted (λ js. of_members js old))
      (members_more (value depth) (suc n) m.0 ts run.0 run.1 first.0 (omega arith) run.2 first.1)
      ∙ after_member m.0 first.0 m.1 _ old first.2
      ∙ members_broken run.1 ms rest run.4 none (suc n - 1) (put m.0 m.1 old)

-- an object is a run of members with its closing brace; the last of one name stays
pub object_closed : (depth : ℕ) (ts : List Token) (ms : List (List ℕ × Data))
    (rest end : List Token) → 0 < depth → Named (depth - 1) ts ms rest
    → read_key rest ≡ Some (None, end)
    → data_at depth (Token.begin_object ∷ ts) ≡ Some (object (put_all ms no_members), end)
object_closed depth ts ms rest end some run closes =
    let all = members_closed (depth - 1) (length ts) ts ms rest end (omega arith) run closes in
    ap (converted of_json) (value-begin_object depth ts some ∙ ap (parse_map json.object) all.1)
    ∙ ap (λ o. option_map (λ d. (d, end)) (option_map object o)) (all.2 no_members)

object_broken : (depth : ℕ) (ts : List Token) (ms : List (List ℕ × Data)) (rest : List Token)
    → 0 < depth → Named (depth - 1) ts ms rest → NoMembers (depth - 1) rest
    → data_at depth (Token.begin_object ∷ ts) ≡ None
object_broken depth ts ms rest some run none =
    ap (converted of_json) (value-begin_object depth ts some)
    ∙ unobjected (members (value (depth - 1)) (length ts) ts)
    (members_broken (depth - 1) ts ms rest run none (length ts) no_members)

-- where neither a brace nor a name follows there is no object
pub object_unnamed : (depth : ℕ) (ts : List Token) (ms : List (List ℕ × Data))
    (rest : List Token) → 0 < depth → Named (depth - 1) ts ms rest → read_key rest ≡ None
    → data_at depth (Token.begin_object ∷ ts) ≡ None
object_unnamed depth ts ms rest some run e =
    object_broken depth ts ms rest some run (no_key (depth - 1) rest e)

-- nor where a name has no value
pub object_unvalued : (depth : ℕ) (ts : List Token) (ms : List (List ℕ × Data))
    (rest : List Token) (k : List ℕ) (colon : List Token) → 0 < depth
    → Named (depth - 1) ts ms rest → read_key rest ≡ Some (Some k, colon)
    → data_at (depth - 1) colon ≡ None → data_at depth (Token.begin_object ∷ ts) ≡ None
object_unvalued depth ts ms rest k colon some run named e =
    object_broken depth ts ms rest some run (no_value (depth - 1) rest k colon named e)

-- ---- nothing nests at depth 0

pub array_too_deep : (ts : List Token) → data_at 0 (Token.begin_array ∷ ts) ≡ None
array_too_deep ts = ap (converted of_json) (value_is 0 _)

pub object_too_deep : (ts : List Token) → data_at 0 (Token.begin_object ∷ ts) ≡ None
object_too_deep ts = ap (converted of_json) (value_is 0 _)
