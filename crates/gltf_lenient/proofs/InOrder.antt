-- The members of a value that is read from a text are in the order of their names. So a member that
-- is put where it was changes nothing.
use Rattle.std.proofs.Common.{◌≡◌, ℕ, List, Option, Some, None, Ordering, Less, Equal, Greater}
use Rattle.std.proofs.Common.{nat_cmp, refl, ap, subst, ◌∙◌, option_map, option_and_then}
use Rattle.std.proofs.lemmas.Cmp.{nat_list_cmp_total}
use Rattle.std.specs.Cmp.Lexicographic.{slice_cmp}
use Rattle.std.specs.Ordering.{match_ordering, ordering_reverse}
use Rattle.std.specs.Prelude.{⊤}
use Rattle.json.specs.Token.{Token}
use Rattle.json.specs.Lex.{tokens}
use Rattle.json.specs.Json as json
use Rattle.serde_json.specs.Data.{Data, null, boolean, number, string, array, object, Items}
use Rattle.serde_json.specs.Data.{Num, Members, no_members, member, put}
use Rattle.serde_json.specs.Find.{get_member}
use Rattle.serde_json.specs.Read.{of_json, of_items, of_members, number_of, max_depth, read}

abbrev pub order : List ℕ → List ℕ → Ordering
order k l = slice_cmp nat_cmp k l

-- all names are behind this one
abbrev pub AreBehind : List ℕ → Members → Type 0
AreBehind k no_members = ⊤
AreBehind k (member l d ms) = (order k l ≡ Less) × AreBehind k ms

abbrev pub AreInOrder : Members → Type 0
AreInOrder no_members = ⊤
AreInOrder (member l d ms) = AreBehind l ms × AreInOrder ms

-- the same of a value, where it is an object
abbrev pub IsInOrder : Data → Type 0
IsInOrder null = ⊤
IsInOrder (boolean b) = ⊤
IsInOrder (number n) = ⊤
IsInOrder (string s) = ⊤
IsInOrder (array ds) = ⊤
IsInOrder (object ms) = AreInOrder ms

-- ---- one member more

behind_too : (k l : List ℕ) (ms : Members) → order k l ≡ Less → AreBehind l ms → AreBehind k ms
behind_too k l no_members less all = tt
behind_too k l (member m e ms) less all =
    (nat_list_cmp_total.trans k l m less all.0, behind_too k l ms less all.1)

put_behind_at : (o : Ordering) (k l m : List ℕ) (d e : Data) (ms : Members) → order k l ≡ Less
    → AreBehind k (member m e ms) → AreBehind k (put l d ms)
    → AreBehind k
    (match_ordering o (member l d (member m e ms)) (member m d ms) (member m e (put l d ms)))
put_behind_at Less k l m d e ms less all later = (less, all)
put_behind_at Equal k l m d e ms less all later = all
put_behind_at Greater k l m d e ms less all later = (all.0, later)

put_behind : (k l : List ℕ) (d : Data) (ms : Members) → order k l ≡ Less → AreBehind k ms
    → AreBehind k (put l d ms)
put_behind k l d no_members less all = (less, tt)
put_behind k l d (member m e ms) less all =
    put_behind_at (order l m) k l m d e ms less all (put_behind k l d ms less all.1)

less_back : (k l : List ℕ) → order k l ≡ Greater → order l k ≡ Less
less_back k l is = nat_list_cmp_total.antisymm l k ∙ ap ordering_reverse is

put_in_order_at : (o : Ordering) (k l : List ℕ) (d e : Data) (ms : Members) → order k l ≡ o
    → AreInOrder (member l e ms) → AreInOrder (put k d ms)
    → AreInOrder
    (match_ordering o (member k d (member l e ms)) (member l d ms) (member l e (put k d ms)))
put_in_order_at Less k l d e ms is all later = ((is, behind_too k l ms is all.0), all)
put_in_order_at Equal k l d e ms is all later = all
put_in_order_at Greater k l d e ms is all later =
    (put_behind l k d ms (less_back k l is) all.0, later)

put_in_order : (k : List ℕ) (d : Data) (ms : Members) → AreInOrder ms → AreInOrder (put k d ms)
put_in_order k d no_members all = (tt, tt)
put_in_order k d (member l e ms) all =
    put_in_order_at (order k l) k l d e ms refl all (put_in_order k d ms all.1)

-- ---- a member that is put where it was

none_behind : (k : List ℕ) (ms : Members) → AreBehind k ms → get_member k ms ≡ None
none_behind k no_members all = refl
none_behind k (member l e ms) all = rw all.0 (none_behind k ms all.1)

put_back_at : (o : Ordering) (k l : List ℕ) (d e : Data) (ms : Members) → order k l ≡ o
    → AreBehind l ms → (get_member k ms ≡ Some d → put k d ms ≡ ms)
    → match_ordering o (get_member k ms) (Some e) (get_member k ms) ≡ Some d
    → match_ordering o (member k d (member l e ms)) (member l d ms) (member l e (put k d ms))
    ≡ member l e ms
put_back_at Less k l d e ms is all later found =
    let none : get_member k ms ≡ None = none_behind k ms (behind_too k l ms is all) in
    cc
put_back_at Equal k l d e ms is all later found = let same : e ≡ d = cc in cc
put_back_at Greater k l d e ms is all later found =
    ap (λ (ns : Members). member l e ns) (later found)

pub put_back : (k : List ℕ) (d : Data) (ms : Members) → AreInOrder ms
    → get_member k ms ≡ Some d → put k d ms ≡ ms
put_back k d no_members all found = cc
put_back k d (member l e ms) all found =
    put_back_at (order k l) k l d e ms refl all.0 (put_back k d ms all.1) found

-- ---- values of texts

abbrev Holds : {A : Type 0} → (A → Type 0) → Option A → Type 0
Holds P None = ⊤
Holds P (Some a) = P a

mapped : {A B : Type 0} (P : A → Type 0) (Q : B → Type 0) (h : A → B)
    → ((a : A) → P a → Q (h a)) → (o : Option A) → Holds P o → Holds Q (option_map h o)
mapped P Q h keeps None x = tt
mapped P Q h keeps (Some a) x = keeps a x

and_then : {A B : Type 0} (Q : B → Type 0) (h : A → Option B)
    → ((a : A) → Holds Q (h a)) → (o : Option A) → Holds Q (option_and_then h o)
and_then Q h keeps None = tt
and_then Q h keeps (Some a) = keeps a

any : {A : Type 0} (o : Option A) → Holds (λ (a : A). ⊤) o
any None = tt
any (Some a) = tt

members_in_order : (ms : json.Members) (found : Members) → AreInOrder found
    → Holds AreInOrder (of_members ms found)
members_in_order json.no_members found all = all
members_in_order (json.member k j ms) found all =
    and_then AreInOrder _ (λ d. members_in_order ms (put k d found) (put_in_order k d found all))
    (of_json j)

value_in_order : (j : json.Json) → Holds IsInOrder (of_json j)
value_in_order json.null = tt
value_in_order (json.boolean b) = tt
value_in_order (json.number s) =
    mapped (λ (n : Num). ⊤) IsInOrder number (λ n x. tt) (number_of s) (any (number_of s))
value_in_order (json.string s) = tt
value_in_order (json.array js) =
    mapped (λ (ds : Items). ⊤) IsInOrder array (λ ds x. tt) (of_items js) (any (of_items js))
value_in_order (json.object ms) =
    mapped AreInOrder IsInOrder object (λ es x. x) (of_members ms no_members)
    (members_in_order ms no_members tt)

pub read_in_order : (text : List ℕ) (d : Data) → read text ≡ Some d → IsInOrder d
read_in_order text d is =
    subst (Holds IsInOrder) is
    (and_then IsInOrder of_json value_in_order
    (option_and_then (λ (p : json.Json × List Token). json.if_last p.0 p.1)
    (json.value max_depth (tokens text))))
