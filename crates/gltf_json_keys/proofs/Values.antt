-- The value that a text without a backslash is: a name in it stands with its quotes in the text.
use Rattle.std.proofs.Common.{◌≡◌, ℕ, List, [], ◌∷◌, Option, Some, None, option_map, refl, subst}
use Rattle.std.proofs.Common.{option_and_then, Ordering, Less, Equal, Greater, true, sym, ap}
use Rattle.std.proofs.Common.{◌∙◌, nat_cmp, is_eq}
use Rattle.std.proofs.lemmas.Map.Text.{is_eq-slice_cmp}
use Rattle.std.proofs.lemmas.Slice.Eq.{bytes_eq-Decides}
use Rattle.std.specs.Cmp.Lexicographic.{slice_cmp}
use Rattle.std.specs.Prelude.{⊤}
use Rattle.std.specs.Ordering.{match_ordering}
use Rattle.json.specs.Token.{Token}
use Rattle.json.specs.Lex.{between, fresh, lex, tokens}
use Rattle.json.specs.Json as json
use Rattle.serde_json.specs.Data.{Data, number, array, object, item, Members, no_members}
use Rattle.serde_json.specs.Data.{member, put}
use Rattle.serde_json.specs.Read.{number_of, of_json, of_items, of_members, max_depth, read}
use Rattle.gltf_json_keys.specs.Keys.{Lacks, ItemsLack, MembersLack, in_quotes, is_among}
use Rattle.gltf_json_keys.specs.Keys.{PartsLack, MembersPartsLack}
use Rattle.gltf_json_keys.proofs.Texts.{NoSlash, Absent, lexemes}
use Rattle.gltf_json_keys.specs.Passed.{JsonLacks, JsonItemsLack, JsonMembersLack, JsonPartsLack}
use Rattle.gltf_json_keys.proofs.Tokens.{Has, tokens_hold, value_holds}

abbrev Holds : {A : Type 0} → (A → Type 0) → Option A → Type 0
Holds P None = ⊤
Holds P (Some a) = P a

mapped : {A B : Type 0} (P : A → Type 0) (Q : B → Type 0) (h : A → B)
    → ((a : A) → P a → Q (h a)) → (o : Option A) → Holds P o → Holds Q (option_map h o)
mapped P Q h keeps None x = tt
mapped P Q h keeps (Some a) x = keeps a x

and_then : {A B : Type 0} (P : A → Type 0) (Q : B → Type 0) (h : A → Option B)
    → ((a : A) → P a → Holds Q (h a)) → (o : Option A) → Holds P o
    → Holds Q (option_and_then h o)
and_then P Q h keeps None x = tt
and_then P Q h keeps (Some a) x = keeps a x

any : {A : Type 0} (o : Option A) → Holds (λ (a : A). ⊤) o
any None = tt
any (Some a) = tt

module _ (k : List ℕ) where
  one_of : (o : Ordering) (a b c : Members) → MembersLack k a → MembersLack k b
      → MembersLack k c → MembersLack k (match_ordering o a b c)
  one_of Less a b c p q r = p
  one_of Equal a b c p q r = q
  one_of Greater a b c p q r = r

  put_lacks : (l : List ℕ) (d : Data) (ms : Members) → (l ≡ k → ⊥) → Lacks k d
      → MembersLack k ms → MembersLack k (put l d ms)
  put_lacks l d no_members apart its all = (apart, its, tt)
  put_lacks l d (member m e ms) apart its all =
      one_of _ (member l d (member m e ms)) (member m d ms) (member m e (put l d ms))
      (apart, its, all) (all.0, its, all.2)
      (all.0, all.1, put_lacks l d ms apart its all.2)

  mutual
    json_lacks : (j : json.Json) → JsonLacks k j → Holds (Lacks k) (of_json j)
    json_lacks json.null has = tt
    json_lacks (json.boolean b) has = tt
    json_lacks (json.number s) has =
        mapped (λ n. ⊤) (Lacks k) number (λ a x. tt) (number_of s) (any _)
    json_lacks (json.string s) has = tt
    json_lacks (json.array js) has =
        mapped (ItemsLack k) (Lacks k) array (λ ds x. x) (of_items js) (items_lack js has)
    json_lacks (json.object ms) has =
        mapped (MembersLack k) (Lacks k) object (λ es x. x) (of_members ms no_members)
        (members_lack ms no_members has tt)

    items_lack : (js : json.Items) → JsonItemsLack k js → Holds (ItemsLack k) (of_items js)
    items_lack json.no_items has = tt
    items_lack (json.item j js) has =
        and_then (Lacks k) (ItemsLack k) _ (λ d x. mapped (ItemsLack k) (ItemsLack k) (item d)
        (λ ds y. (x, y)) (of_items js) (items_lack js has.1)) (of_json j) (json_lacks j has.0)

    members_lack : (ms : json.Members) (found : Members) → JsonMembersLack k ms
        → MembersLack k found → Holds (MembersLack k) (of_members ms found)
    members_lack json.no_members found has all = all
    members_lack (json.member l j ms) found has all =
        and_then (Lacks k) (MembersLack k) _ (λ d x. members_lack ms (put l d found) has.2
        (put_lacks l d found has.0 x all)) (of_json j) (json_lacks j has.1)

  last_lacks : (o : Option (json.Json × List Token)) → Has k (JsonLacks k) o
      → Holds (JsonLacks k) (option_and_then (λ p. json.if_last p.0 p.1) o)
  last_lacks None has = tt
  last_lacks (Some (j, [])) has = has.0
  last_lacks (Some (j, t ∷ r)) has = tt

  pub value_lacks : (text : List ℕ) (d : Data) → NoSlash text → Absent (in_quotes k) text
      → read text ≡ Some d → Lacks k d
  value_lacks text d clean absent e =
      subst (Holds (Lacks k)) e (and_then (JsonLacks k) (Lacks k) of_json json_lacks _
      (last_lacks _ (value_holds k max_depth (tokens text)
      (tokens_hold k fresh (lex between text) (lexemes k between text clean absent)))))

-- ---- some members of the whole

same_name : (l m : List ℕ) → slice_cmp nat_cmp l m ≡ Equal → l ≡ m
same_name l m is = (bytes_eq-Decides l m).0 (sym (is_eq-slice_cmp l m) ∙ ap is_eq is)

module _ (parts : List (List ℕ)) (k : List ℕ) where
  -- a member of this name lacks it, where the name is one of the parts
  abbrev LacksAt : List ℕ → Data → Type 0
  LacksAt l d = is_among parts l ≡ true → Lacks k d

  by_order : (l m : List ℕ) (d e : Data) (ms more : Members) (o : Ordering)
      → slice_cmp nat_cmp l m ≡ o → LacksAt l d → LacksAt m e → MembersPartsLack parts k ms
      → MembersPartsLack parts k more
      → MembersPartsLack parts k
      (match_ordering o (member l d (member m e ms)) (member m d ms) (member m e more))
  by_order l m d e ms more Less is its old all rest = (its, (old, all))
  by_order l m d e ms more Equal is its old all rest =
      (subst (λ (n : List ℕ). LacksAt n d) (same_name l m is) its, all)
  by_order l m d e ms more Greater is its old all rest = (old, rest)

  put_part : (l : List ℕ) (d : Data) (ms : Members) → LacksAt l d → MembersPartsLack parts k ms
      → MembersPartsLack parts k (put l d ms)
  put_part l d no_members its all = (its, tt)
  put_part l d (member m e ms) its all =
      by_order l m d e ms (put l d ms) (slice_cmp nat_cmp l m) refl its all.0 all.1
      (put_part l d ms its all.1)

  -- where it is one of the parts, what is read of it lacks the name
  read_at : (Q : Type 0) (o : Option Data) → (Q → Holds (Lacks k) o)
      → Holds (λ d. Q → Lacks k d) o
  read_at Q None lacks = tt
  read_at Q (Some d) lacks = lacks

  parts_lack : (ms : json.Members) (found : Members) → JsonPartsLack parts k ms
      → MembersPartsLack parts k found → Holds (MembersPartsLack parts k) (of_members ms found)
  parts_lack json.no_members found has all = all
  parts_lack (json.member l j ms) found has all =
      and_then (LacksAt l) (MembersPartsLack parts k) _
      (λ d x. parts_lack ms (put l d found) has.1 (put_part l d found x all)) (of_json j)
      (read_at (is_among parts l ≡ true) (of_json j) (λ yes. json_lacks k j (has.0 yes)))

  object_lacks : (ms : json.Members) → JsonPartsLack parts k ms
      → Holds (PartsLack parts k) (of_json (json.object ms))
  object_lacks ms has =
      mapped (MembersPartsLack parts k) (PartsLack parts k) object (λ es x. x)
      (of_members ms no_members) (parts_lack ms no_members has tt)

  -- the value that a text is, where it is alone in it
  alone : (j : json.Json) (rest : List Token) → Holds (PartsLack parts k) (of_json j)
      → Holds (PartsLack parts k) (option_and_then of_json (json.if_last j rest))
  alone j [] has = has
  alone j (t ∷ rest) has = tt

  pub text_lacks : (text : List ℕ) (ms : json.Members) (rest : List Token)
      → json.value max_depth (tokens text) ≡ Some (json.object ms, rest)
      → JsonPartsLack parts k ms → (d : Data) → read text ≡ Some d → PartsLack parts k d
  text_lacks text ms rest is has d e =
      let whole : option_and_then of_json (json.if_last (json.object ms) rest) ≡ Some d =
      sym (ap (λ o. option_and_then of_json (option_and_then (λ p. json.if_last p.0 p.1) o)) is)
      ∙ e in
      subst (Holds (PartsLack parts k)) whole (alone (json.object ms) rest (object_lacks ms has))
