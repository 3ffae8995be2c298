-- `build` reads at the next tokens what `serde_json` reads there. Both loops keep that the values,
-- or the members, so far are a run of the grammar from the token that opened; a closing token then
-- makes the run an array or an object, and the tokens left get fewer at each step.
use Rattle.std.proofs.Common.{◌≡◌, ◌-◌, ◌<◌, [], ◌∷◌, ◌++◌, List, ℕ, length, map, Some, None, false}
use Rattle.std.proofs.Common.{⊎_elim, option_map, string_bytes, string_cmp}
use Rattle.std.proofs.Common.{refl, sym, ap, subst, ◌∙◌, arith, rules}
use Rattle.std.proofs.lemmas.List.{map-append}
use Rattle.std.specs.BTreeMap.{insert_entry}
use Rattle.json.specs.Token as spec
use Rattle.json.specs.Token.{begin_array, begin_object}
use Rattle.json.specs.Json.{after_end_array}
use Rattle.json.specs.Reads.{token_of, opens}
use Rattle.json.specs.declared.token.Token.{Token}
use Rattle.json.proofs.Grammar.{read_key-shorter}
use Rattle.serde_json.specs.Data.{Data, null, boolean, number, string, object, no_members, put}
use Rattle.serde_json.specs.View.{view, number_view, members_view}
use Rattle.serde_json.specs.declared.value.Value.{Value, String, Number, Bool, Null, the_lemmas}
use Rattle.serde_json.proofs.Views.{view-Array, view-Object, members_view-insert_entry}
use Rattle.gltf_json_tokens.specs.Tokens.{data_at}
use Rattle.gltf_json_tokens.specs.Runs.{Items}
use Rattle.gltf_json_tokens.specs.RunLaws.{alone, data_at-alone, data_at-no_token, data_at-shorter}
use Rattle.gltf_json_tokens.specs.RunLaws.{Items-push, array_closed, array_broken, array_too_deep}
use Rattle.gltf_json_tokens.specs.RunLaws.{Named-push, put_all-push, object_closed}
use Rattle.gltf_json_tokens.specs.RunLaws.{object_unnamed, object_unvalued, object_too_deep}
use Rattle.gltf_json_tokens.proofs.build.+build.Goals as goal

-- a value of one token
one : (n : ℕ) (first : Token) (t : spec.Token) (ts : List spec.Token) (d : Data) (v : Value)
    → token_of first ≡ t → opens (t ∷ ts) ≡ false → alone t ≡ Some d → view v ≡ d
    → data_at n (token_of first ∷ ts) ≡ Some (view v, ts)
one n first t ts d v is closed stands seen =
    ap (λ k. data_at n (k ∷ ts)) is ∙ data_at-alone n t ts closed
    ∙ ap (option_map (λ x. (x, ts))) (stands ∙ ap Some (sym seen))

none : (n : ℕ) (first : Token) (t : spec.Token) (ts : List spec.Token)
    → token_of first ≡ t → opens (t ∷ ts) ≡ false → alone t ≡ None
    → data_at n (token_of first ∷ ts) ≡ None
none n first t ts is closed stands =
    ap (λ k. data_at n (k ∷ ts)) is ∙ data_at-alone n t ts closed
    ∙ ap (option_map (λ x. (x, ts))) stands

pub array-returns-then-depth-eq0 : goal.array-returns-then-depth-eq0
array-returns-then-depth-eq0 t c =
    ap (λ n. data_at n (begin_array ∷ c.args.rest.now)) c.if-depth-eq0.true
    ∙ array_too_deep c.args.rest.now

pub array-returns-in_default : goal.array-returns-in_default
array-returns-in_default t c =
    let l = c.items in
    let s = c.take_end_array.new.self in
    let going : (after_end_array l.rest ≡ None) × (s ≡ l.rest) = grind arith in
    let ends : l.rest ≡ [] = sym going.1 ∙ c.in_default.ensures.value.0 in
    array_broken c.args.depth c.args.rest.now (map view l.items.items) l.rest (omega arith)
    l.invariant going.0
    (ap (data_at (c.args.depth - 1)) ends ∙ data_at-no_token (c.args.depth - 1))

pub array-returns-in_default-2 : goal.array-returns-in_default-2
array-returns-in_default-2 t c =
    let l = c.items in
    let s = c.take_end_array.new.self in
    let going : (after_end_array l.rest ≡ None) × (s ≡ l.rest) = grind arith in
    let starts : l.rest ≡ token_of c.in-Some.first ∷ c.next.new.self =
    sym going.1 ∙ c.in-Some.ensures.value in
    let missing = rw c.in_default-2.is at c.in_ok-item.ensures in
    array_broken c.args.depth c.args.rest.now (map view l.items.items) l.rest (omega arith)
    l.invariant going.0
    (ap (data_at (c.args.depth - 1)) starts ∙ missing)

pub array-items-smaller : goal.array-items-smaller
array-items-smaller t c =
    let l = c.items in
    let s = c.take_end_array.new.self in
    let going : (after_end_array l.rest ≡ None) × (s ≡ l.rest) = grind arith in
    let starts : l.rest ≡ token_of c.in-Some.first ∷ c.next.new.self =
    sym going.1 ∙ c.in-Some.ensures.value in
    let item = rw c.in-Some-2.is at c.in_ok-item.ensures in
    data_at-shorter (c.args.depth - 1) l.rest (view c.in-Some-2.item) c.build.new.rest
    (ap (data_at (c.args.depth - 1)) starts ∙ item)

pub array-items-preserved : goal.array-items-preserved
array-items-preserved t c =
    let l = c.items in
    let n = c.args.depth - 1 in
    let ts = c.args.rest.now in
    let v = c.in-Some-2.item in
    let s = c.take_end_array.new.self in
    let going : (after_end_array l.rest ≡ None) × (s ≡ l.rest) = grind arith in
    let starts : l.rest ≡ token_of c.in-Some.first ∷ c.next.new.self =
    sym going.1 ∙ c.in-Some.ensures.value in
    let item = rw c.in-Some-2.is at c.in_ok-item.ensures in
    let pushed : c.push.new.self.items ≡ l.items.items ++ v ∷ [] = c.in_ok-push.ensures.items in
    let more : map view (l.items.items ++ v ∷ []) ≡ map view l.items.items ++ view v ∷ [] =
    simp map-append in
    subst (λ (ds : List Data). Items n ts ds c.build.new.rest) (sym (ap (map view) pushed ∙ more))
    (Items-push n ts (map view l.items.items) l.rest (view v) c.build.new.rest l.invariant
    (ap (data_at n) starts ∙ item))

pub array-returns : goal.array-returns
array-returns t c =
    let l = c.items in
    let end = c.take_end_array.new.self in
    let closes : after_end_array l.rest ≡ Some end = grind arith in
    array_closed c.args.depth c.args.rest.now (map view l.items.items) l.rest end (omega arith)
    l.invariant closes
    ∙ ap (λ d. Some (d, end)) (sym (view-Array l.items))

pub build-returns-in-Null : goal.build-returns-in-Null
build-returns-in-Null t c =
    one c.args.depth c.args.first spec.null c.args.rest.now null Null (ap token_of c.in-Null.is)
    refl refl (search (rules, the_lemmas))

pub build-returns-in-Bool : goal.build-returns-in-Bool
build-returns-in-Bool t c =
    let b = c.in-Bool.flag in
    one c.args.depth c.args.first (spec.boolean b) c.args.rest.now (boolean b) (Bool b)
    (ap token_of c.in-Bool.is) refl refl (search (rules, the_lemmas))

pub build-returns-in-None : goal.build-returns-in-None
build-returns-in-None t c =
    let s = c.in-Number.text.now in
    none c.args.depth c.args.first (spec.number s) c.args.rest.now (ap token_of c.in-Number.is) refl
    (ap (option_map number) (sym c.in-None.ensures))

pub build-returns-in-Some : goal.build-returns-in-Some
build-returns-in-Some t c =
    let s = c.in-Number.text.now in
    let x = c.in-Some.number in
    one c.args.depth c.args.first (spec.number s) c.args.rest.now (number (number_view x))
    (Number x) (ap token_of c.in-Number.is) refl (ap (option_map number) (sym c.in-Some.ensures))
    (search (rules, the_lemmas))

pub build-returns-in_ok-from_str-in-String : goal.build-returns-in_ok-from_str-in-String
build-returns-in_ok-from_str-in-String t c =
    let s = c.in-String.text.now in
    let copy = c.in_ok-from_str-in-String.field-0 in
    let seen : view (String copy) ≡ string (string_bytes copy) = search (rules, the_lemmas) in
    one c.args.depth c.args.first (spec.string s) c.args.rest.now (string s) (String copy)
    (ap token_of c.in-String.is) refl refl (seen ∙ ap string c.in_ok-from_str-in-String.ensures.ok)

pub build-returns-in-EndArray : goal.build-returns-in-EndArray
build-returns-in-EndArray t c =
    let n = c.args.depth in
    let first = c.args.first in
    let ts = c.args.rest.now in
    ⊎_elim (λ e. none n first spec.end_array ts (ap token_of e) refl refl)
    (⊎_elim (λ e. none n first spec.end_object ts (ap token_of e) refl refl)
    (⊎_elim (λ e. none n first (spec.key e.0.now) ts (ap token_of e.1) refl refl)
    (λ e. none n first spec.bad ts (ap token_of e) refl refl)))
    c.in-EndArray.is

pub object-returns-then-depth-eq0 : goal.object-returns-then-depth-eq0
object-returns-then-depth-eq0 t c =
    ap (λ n. data_at n (begin_object ∷ c.args.rest.now)) c.if-depth-eq0.true
    ∙ object_too_deep c.args.rest.now

pub object-returns-in-Ok-None : goal.object-returns-in-Ok-None
object-returns-in-Ok-None t c =
    let l = c.members in
    let end = c.next_key.new.self in
    let closes = rw c.in-Ok-None.field-0-is at c.in-Ok-None.ensures.value in
    object_closed c.args.depth c.args.rest.now l.invariant.0 l.rest end (omega arith)
    l.invariant.1 closes
    ∙ ap (λ ms. Some (object ms, end)) (sym l.invariant.2)
    ∙ ap (λ d. Some (d, end)) (sym (view-Object l.members))

pub object-returns-in-Err : goal.object-returns-in-Err
object-returns-in-Err t c =
    let l = c.members in
    object_unnamed c.args.depth c.args.rest.now l.invariant.0 l.rest (omega arith) l.invariant.1
    c.in-Err.ensures.value

pub object-returns-in_default : goal.object-returns-in_default
object-returns-in_default t c =
    let l = c.members in
    let named = rw c.in-Ok-Some.field-0-is at c.in-Ok-Some.ensures.value in
    object_unvalued c.args.depth c.args.rest.now l.invariant.0 l.rest c.in-Ok-Some.name.now
    c.next_key.new.self (omega arith) l.invariant.1 named
    (ap (data_at (c.args.depth - 1)) c.in_default.ensures.value.0
    ∙ data_at-no_token (c.args.depth - 1))

pub object-returns-in_default-2 : goal.object-returns-in_default-2
object-returns-in_default-2 t c =
    let l = c.members in
    let named = rw c.in-Ok-Some.field-0-is at c.in-Ok-Some.ensures.value in
    let missing = rw c.in_default-2.is at c.in_ok-member.ensures in
    object_unvalued c.args.depth c.args.rest.now l.invariant.0 l.rest c.in-Ok-Some.name.now
    c.next_key.new.self (omega arith) l.invariant.1 named
    (ap (data_at (c.args.depth - 1)) c.in-Some.ensures.value ∙ missing)

pub object-members-smaller : goal.object-members-smaller
object-members-smaller t c =
    let l = c.members in
    let k = c.in-Ok-Some.name.now in
    let named = rw c.in-Ok-Some.field-0-is at c.in-Ok-Some.ensures.value in
    let key : length c.next_key.new.self < length l.rest =
    read_key-shorter l.rest (Some k) c.next_key.new.self named in
    let member = rw c.in-Some-2.is at c.in_ok-member.ensures in
    let less : length c.build.new.rest < length c.next_key.new.self =
    data_at-shorter (c.args.depth - 1) c.next_key.new.self (view c.in-Some-2.member)
    c.build.new.rest (ap (data_at (c.args.depth - 1)) c.in-Some.ensures.value ∙ member) in
    omega (arith, key, less)

pub object-members-preserved : goal.object-members-preserved
object-members-preserved t c =
    let l = c.members in
    let ms = l.invariant.0 in
    let n = c.args.depth - 1 in
    let k = c.in-Ok-Some.name.now in
    let v = c.in-Some-2.member in
    let name = c.in_ok-name-in-Ok-Some.name in
    let s = c.next_key.new.self in
    let named = rw c.in-Ok-Some.field-0-is at c.in-Ok-Some.ensures.value in
    let member = rw c.in-Some-2.is at c.in_ok-member.ensures in
    let copied : string_bytes name ≡ k = search rules in
    let inserted : c.insert.new.self.entries
    ≡ insert_entry string_cmp l.members.entries name v = c.in_ok-insert.ensures.entries in (
      ms ++ (k, view v) ∷ [],
      Named-push n c.args.rest.now ms l.rest k (view v) s c.build.new.rest l.invariant.1 named
          (ap (data_at n) c.in-Some.ensures.value ∙ member),
      ap members_view inserted ∙ members_view-insert_entry l.members.entries name v
          ∙ ap (λ t. put t (view v) (members_view l.members.entries)) copied
          ∙ ap (put k (view v)) l.invariant.2 ∙ sym (put_all-push ms k (view v) no_members),
    )
