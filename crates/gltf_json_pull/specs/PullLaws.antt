-- What has been found of a member, as members come in one after another.
use Rattle.std.specs.Prelude.{ℕ, zero, suc, length, List, [], ◌∷◌, ◌++◌, bytes_eq}
use Rattle.std.specs.Prelude.{Bool, true, false, not, ◌&&◌, ◌||◌}
use Rattle.std.specs.Prelude.{Option, Some, None, MatchOption, option_map, option_and_then}
use Rattle.std.specs.Bool.{MatchBool}
use Rattle.std.proofs.Common.{◌≡◌, refl, sym, ap, subst, ◌∙◌, true≢false}
use Rattle.std.proofs.lemmas.Slice.Eq.{bytes_eq-Decides}
use Rattle.json.specs.Token.{Token}
use Rattle.json.specs.Json as json
use Rattle.json.specs.Json.{parse_map, if_last, items, members, value}
use Rattle.json.specs.Lex.{tokens}
use Rattle.json.proofs.Grammar.{value_is}
use Rattle.serde_json.specs.Data.{Data, null, boolean, number, string, array, object}
use Rattle.serde_json.specs.Data.{no_members, Members, put}
use Rattle.serde_json.specs.Read.{of_json, of_items, of_members, number_of, converted}
use Rattle.serde_json.specs.Read.{max_depth, read}
use Rattle.serde_json.specs.View.{items_of}
use Rattle.serde_json.proofs.Views.{get_member-put, get_member-put_other}
use Rattle.gltf_json_record.specs.Items.{AllRead}
use Rattle.gltf_json_record.specs.Kind.{Kind}
use Rattle.gltf_json_record.specs.Member.{unless_null, is_one_of}
use Rattle.gltf_json_record.specs.Table.{first_name, other_names, pair}
use Rattle.gltf_json_tokens.specs.Tokens.{data_at}
use Rattle.gltf_json_tokens.specs.RunLaws.{data_at-alone, parsed}
use Rattle.gltf_json_pull.specs.Pulls.{IsMember, Takes, found, are_distinct}

-- ---- null comes of its own token alone

-- the first of what was read
first_or : Data → Option (Data × List Token) → Data
first_or d None = d
first_or d (Some p) = p.0

is_null : Data → Bool
is_null null = true
is_null (boolean b) = false
is_null (number n) = false
is_null (string s) = false
is_null (array ds) = false
is_null (object ms) = false

-- what a function makes of something else is not null
made_not_null : {A : Type 0} (f : A → Data) (x : Option A) (s : List Token)
    (o : Option (Data × List Token))
    → ((a : A) → is_null (f a) ≡ false) → option_map (λ d. (d, s)) (option_map f x) ≡ o
    → is_null (first_or (boolean true) o) ≡ false
unfolding is_null first_or
made_not_null f None s o h e = ap (λ p. is_null (first_or (boolean true) p)) (sym e)
made_not_null f (Some a) s o h e = ap (λ p. is_null (first_or (boolean true) p)) (sym e) ∙ h a

items_not_null : (q : Option (json.Items × List Token)) (o : Option (Data × List Token))
    → converted of_json (parse_map json.array q) ≡ o → is_null (first_or (boolean true) o) ≡ false
unfolding is_null first_or
items_not_null None o e = ap (λ p. is_null (first_or (boolean true) p)) (sym e)
items_not_null (Some p) o e = made_not_null array (of_items p.0) p.1 o (λ a. refl) e

members_not_null : (q : Option (json.Members × List Token)) (o : Option (Data × List Token))
    → converted of_json (parse_map json.object q) ≡ o → is_null (first_or (boolean true) o) ≡ false
unfolding is_null first_or
members_not_null None o e = ap (λ p. is_null (first_or (boolean true) p)) (sym e)
members_not_null (Some p) o e = made_not_null object (of_members p.0 no_members) p.1 o (λ a. refl) e

-- the members, and the items, that the value of a token that opens them is made of
opened_members : (depth : ℕ) (ts : List Token) → (q : Option (json.Members × List Token))
    × (value depth (Token.begin_object ∷ ts) ≡ parse_map json.object q)
opened_members zero ts = (None, value_is zero (Token.begin_object ∷ ts))
opened_members (suc d) ts =
    (members (value d) (length ts) ts, value_is (suc d) (Token.begin_object ∷ ts))

opened_items : (depth : ℕ) (ts : List Token) → (q : Option (json.Items × List Token))
    × (value depth (Token.begin_array ∷ ts) ≡ parse_map json.array q)
opened_items zero ts = (None, value_is zero (Token.begin_array ∷ ts))
opened_items (suc d) ts =
    (items (value d) (length ts) ts, value_is (suc d) (Token.begin_array ∷ ts))

-- the value of one token
of_token : (depth : ℕ) (t : Token) (ts : List Token) → (t ≡ Token.null → ⊥)
    → is_null (first_or (boolean true) (data_at depth (t ∷ ts))) ≡ false
unfolding is_null first_or
of_token depth Token.begin_object ts other =
    let q = opened_members depth ts in
    members_not_null q.0 _ (ap (converted of_json) (sym q.1))
of_token depth Token.end_object ts other =
    ap (λ p. is_null (first_or (boolean true) p)) (data_at-alone depth Token.end_object ts refl)
of_token depth Token.begin_array ts other =
    let q = opened_items depth ts in
    items_not_null q.0 _ (ap (converted of_json) (sym q.1))
of_token depth Token.end_array ts other =
    ap (λ p. is_null (first_or (boolean true) p)) (data_at-alone depth Token.end_array ts refl)
of_token depth (Token.key s) ts other =
    ap (λ p. is_null (first_or (boolean true) p)) (data_at-alone depth (Token.key s) ts refl)
of_token depth (Token.string s) ts other =
    ap (λ p. is_null (first_or (boolean true) p)) (data_at-alone depth (Token.string s) ts refl)
of_token depth (Token.number s) ts other =
    made_not_null number (number_of s) ts _ (λ a. refl)
    (sym (data_at-alone depth (Token.number s) ts refl))
of_token depth (Token.boolean b) ts other =
    ap (λ p. is_null (first_or (boolean true) p)) (data_at-alone depth (Token.boolean b) ts refl)
of_token depth Token.null ts other = absurd (other refl)
of_token depth Token.bad ts other =
    ap (λ p. is_null (first_or (boolean true) p)) (data_at-alone depth Token.bad ts refl)

kept : (d : Data) → is_null d ≡ false → unless_null d ≡ Some d
unfolding is_null
kept null e = absurd (true≢false e)
kept (boolean b) e = refl
kept (number n) e = refl
kept (string s) e = refl
kept (array ds) e = refl
kept (object ms) e = refl

-- a value that begins with another token than null is not null
pub not_null : (depth : ℕ) (t : Token) (ts : List Token) (d : Data) (rest : List Token)
    → (t ≡ Token.null → ⊥) → data_at depth (t ∷ ts) ≡ Some (d, rest) → unless_null d ≡ Some d
unfolding first_or
not_null depth t ts d rest other e =
    kept d (ap (λ p. is_null (first_or (boolean true) p)) (sym e) ∙ of_token depth t ts other)

pub there_member : {T : Type 0} (K : Kind T) (d : Data) (x : T)
    → unless_null d ≡ Some d → K.is d x → IsMember K d (Some x)
there_member K d x e is = rw e is

-- ---- what has been found

-- the member of the own name replaces what was found
found_here : {T : Type 0} (K : Kind T) (own : List ℕ) (d : Data) (ms : Members) (x : Option T)
    → IsMember K d x → (found own K).is (object (put own d ms)) x
found_here {T} K own d ms x h =
    let P : Option Data → Type 0 = λ o. MatchOption (option_and_then unless_null o) (x ≡ None)
    (λ e. MatchOption x ⊥ (K.is e)) in
    subst P (sym (get_member-put own d ms)) h

-- and one of another name leaves it
found_apart : {T : Type 0} (K : Kind T) (own name : List ℕ) (d : Data) (ms : Members)
    (x : Option T) → (own ≡ name → ⊥) → (found own K).is (object ms) x
    → (found own K).is (object (put name d ms)) x
found_apart {T} K own name d ms x other h =
    let P : Option Data → Type 0 = λ o. MatchOption (option_and_then unless_null o) (x ≡ None)
    (λ e. MatchOption x ⊥ (K.is e)) in
    subst P (sym (get_member-put_other own name d ms other)) h

-- ---- names

or_first : (a b : Bool) → (a || b) ≡ false → a ≡ false
or_first false b e = refl
or_first true b e = e

or_second : (a b : Bool) → (a || b) ≡ false → b ≡ false
or_second false b e = e
or_second true b e = absurd (true≢false e)

differ : (own name : List ℕ) → bytes_eq name own ≡ false → own ≡ name → ⊥
differ own name e same = true≢false (sym ((bytes_eq-Decides name own).1 (sym same)) ∙ e)

-- a member that none of the names has leaves what was found of the first
pub first_apart : {T : Type 0} (K : Kind T) (names : List (List ℕ)) (name : List ℕ) (d : Data)
    (ms : Members) (x : Option T) → is_one_of names name ≡ false → ([] ≡ name → ⊥)
    → (found (first_name names) K).is (object ms) x
    → (found (first_name names) K).is (object (put name d ms)) x
first_apart K [] name d ms x lacks some h = found_apart K [] name d ms x some h
first_apart K (own ∷ names) name d ms x lacks some h =
    found_apart K own name d ms x
    (differ own name (or_first (bytes_eq name own) (is_one_of names name) lacks)) h

pub others_lack : (names : List (List ℕ)) (name : List ℕ) → is_one_of names name ≡ false
    → is_one_of (other_names names) name ≡ false
others_lack [] name lacks = refl
others_lack (own ∷ names) name lacks = or_second (bytes_eq name own) (is_one_of names name) lacks

not_among : (own : List ℕ) (names : List (List ℕ)) → are_distinct (own ∷ names) ≡ true
    → is_one_of names own ≡ false
not_among own names e = go (is_one_of names own) e
  where
    go : (b : Bool) → (not b && are_distinct names) ≡ true → b ≡ false
    go false e = refl
    go true e = sym e

pub distinct_others : (names others : List (List ℕ)) (own : List ℕ) → names ≡ own ∷ others
    → are_distinct names ≡ true → are_distinct others ≡ true
distinct_others names others own is e = go (is_one_of others own) (ap are_distinct (sym is) ∙ e)
  where
    go : (b : Bool) → (not b && are_distinct others) ≡ true → are_distinct others ≡ true
    go false e = e
    go true e = absurd (true≢false (sym e))

-- the other names lack the first
pub others_lack_own : (names others : List (List ℕ)) (own name : List ℕ) → names ≡ own ∷ others
    → bytes_eq name own ≡ true → are_distinct names ≡ true
    → is_one_of (other_names names) name ≡ false
others_lack_own names others own name is same e =
    ap (λ ns. is_one_of (other_names ns) name) is
    ∙ ap (is_one_of others) ((bytes_eq-Decides name own).0 same)
    ∙ not_among own others (ap are_distinct (sym is) ∙ e)

-- ---- a step: the first name, or the others

pub own_taken : {T : Type 0} (K : Kind T) (names others : List (List ℕ)) (own name : List ℕ)
    (d : Data) (ms : Members) (x : Option T) → names ≡ own ∷ others → bytes_eq name own ≡ true
    → IsMember K d x → (found (first_name names) K).is (object (put name d ms)) x
own_taken {T} K names others own name d ms x is same h =
    let P : List ℕ → Type 0 = λ k. (found k K).is (object (put name d ms)) x in
    subst P ((bytes_eq-Decides name own).0 same ∙ ap first_name (sym is))
    (found_here K name d ms x h)

-- the others take the member, or lack its name
others_step_at : {T F : Type 0} (K : Kind T) (L : List (List ℕ) → Kind F) (own : List ℕ)
    (others : List (List ℕ)) (name : List ℕ) (depth : ℕ) (x : Option T) (old new : F)
    (ts rest : List Token) (took : Bool) → bytes_eq name own ≡ false
    → MatchBool took (Takes (L others) name depth old ts new rest)
    ((rest ≡ ts) × (new ≡ old) × (is_one_of others name ≡ false))
    → MatchBool took (Takes (pair (found own K) (L others)) name depth (x, old) ts (x, new) rest)
    ((rest ≡ ts) × (◌≡◌ {A = Option T × F} (x, new) (x, old))
    × (is_one_of (own ∷ others) name ≡ false))
others_step_at K L own others name depth x old new ts rest true other h =
    (h.0, h.1, λ ms is. (found_apart K own name h.0 ms x (differ own name other) is.0, h.2 ms is.1))
others_step_at K L own others name depth x old new ts rest false other h =
    (h.0, ap (λ f. (x, f)) h.1, ap (λ b. b || is_one_of others name) other ∙ h.2)

pub others_step : {T F : Type 0} (K : Kind T) (L : List (List ℕ) → Kind F)
    (names others : List (List ℕ)) (own name : List ℕ) (depth : ℕ) (x : Option T) (old new : F)
    (ts rest : List Token) (took : Bool) → names ≡ own ∷ others → bytes_eq name own ≡ false
    → MatchBool took (Takes (L others) name depth old ts new rest)
    ((rest ≡ ts) × (new ≡ old) × (is_one_of others name ≡ false))
    → MatchBool took
    (Takes (pair (found (first_name names) K) (L (other_names names))) name depth (x, old) ts
    (x, new) rest)
    ((rest ≡ ts) × (◌≡◌ {A = Option T × F} (x, new) (x, old)) × (is_one_of names name ≡ false))
others_step {T} {F} K L names others own name depth x old new ts rest took is other h =
    let P : List (List ℕ) → Type 0 = λ ns. MatchBool took
    (Takes (pair (found (first_name ns) K) (L (other_names ns))) name depth (x, old) ts
    (x, new) rest)
    ((rest ≡ ts) × (◌≡◌ {A = Option T × F} (x, new) (x, old)) × (is_one_of ns name ≡ false)) in
    subst P (sym is) (others_step_at K L own others name depth x old new ts rest took other h)

-- ---- lists

pub AllRead-push : {T : Type 0} (P : Data → T → Type 0) (ds : List Data) (xs : List T) (d : Data)
    (x : T) → AllRead P (items_of ds) xs → P d x
    → AllRead P (items_of (ds ++ d ∷ [])) (xs ++ x ∷ [])
AllRead-push P [] [] d x all is = (is, tt)
AllRead-push P [] (y ∷ xs) d x all is = absurd all
AllRead-push P (e ∷ ds) [] d x all is = absurd all
AllRead-push P (e ∷ ds) (y ∷ xs) d x all is = (all.0, AllRead-push P ds xs d x all.1 is)

-- ---- a whole text

pub whole_text : (text : List ℕ) (d : Data) → data_at max_depth (tokens text) ≡ Some (d, [])
    → read text ≡ Some d
whole_text text d e =
    let json = parsed max_depth (tokens text) d [] e in
    ap (λ o. option_and_then of_json (option_and_then (λ p. if_last p.0 p.1) o)) json.1 ∙ json.2
