-- The members of each object in a value that is read from a text are in the order of their names.
-- So a member that is put where it was changes nothing: lemmas.
use Rattle.std.proofs.Common.{◌≡◌, ℕ, List, Option, Some, None, Ordering, Less, Equal, Greater}
use Rattle.std.proofs.Common.{nat_cmp, refl, ap, subst, ◌∙◌, option_map, option_and_then}
use Rattle.std.proofs.lemmas.Cmp.{nat_list_cmp_total}
use Rattle.std.specs.Cmp.Lexicographic.{slice_cmp}
use Rattle.std.specs.Ordering.{match_ordering, ordering_reverse}
use Rattle.std.specs.Prelude.{⊤}
use Rattle.json.specs.Token.{Token}
use Rattle.json.specs.Lex.{tokens}
use Rattle.json.specs.Json as json
use Rattle.serde_json.specs.Data.{Data, null, boolean, number, string, array, object, Items}
use Rattle.serde_json.specs.Data.{no_items, item, Num, Members, no_members, member, put}
use Rattle.serde_json.specs.Find.{get_member}
use Rattle.serde_json.specs.Read.{of_json, of_items, of_members, number_of, max_depth, read}

abbrev order : List ℕ → List ℕ → Ordering
order k l = slice_cmp nat_cmp k l

-- all names are behind this one
abbrev pub AreBehind : List ℕ → Members → Type 0
AreBehind k no_members = ⊤
AreBehind k (member l d ms) = (order k l ≡ Less) × AreBehind k ms

abbrev mutual
  pub IsOrdered : Data → Type 0
  IsOrdered null = ⊤
  IsOrdered (boolean b) = ⊤
  IsOrdered (number n) = ⊤
  IsOrdered (string s) = ⊤
  IsOrdered (array ds) = AreOrdered ds
  IsOrdered (object ms) = InOrder ms

  pub AreOrdered : Items → Type 0
  AreOrdered no_items = ⊤
  AreOrdered (item d ds) = IsOrdered d × AreOrdered ds

  pub InOrder : Members → Type 0
  InOrder no_members = ⊤
  InOrder (member l d ms) = IsOrdered d × AreBehind l ms × InOrder ms

-- ---- one member more

behind_too : (k l : List ℕ) (ms : Members) → order k l ≡ Less → AreBehind l ms → AreBehind k ms
behind_too k l no_members less all = tt
behind_too k l (member m e ms) less all =
    (nat_list_cmp_total.trans k l m less all.0, behind_too k l ms less all.1)

put_behind_at : (o : Ordering) (k l m : List ℕ) (d e : Data) (ms : Members) → order k l ≡ Less
    → AreBehind k (member m e ms) → AreBehind k (put l d ms)
    → AreBehind k
    (match_ordering o (member l d (member m e ms)) (member m d ms) (member m e (put l d ms)))
put_behind_at Less k l m d e ms less all later = (less, all)
put_behind_at Equal k l m d e ms less all later = all
put_behind_at Greater k l m d e ms less all later = (all.0, later)

put_behind : (k l : List ℕ) (d : Data) (ms : Members) → order k l ≡ Less → AreBehind k ms
    → AreBehind k (put l d ms)
put_behind k l d no_members less all = (less, tt)
put_behind k l d (member m e ms) less all =
    put_behind_at (order l m) k l m d e ms less all (put_behind k l d ms less all.1)

less_back : (k l : List ℕ) → order k l ≡ Greater → order l k ≡ Less
less_back k l is = nat_list_cmp_total.antisymm l k ∙ ap ordering_reverse is

put_ordered_at : (o : Ordering) (k l : List ℕ) (d e : Data) (ms : Members) → order k l ≡ o
    → IsOrdered d → InOrder (member l e ms) → InOrder (put k d ms)
    → InOrder
    (match_ordering o (member k d (member l e ms)) (member l d ms) (member l e (put k d ms)))
put_ordered_at Less k l d e ms is one all later =
    (one, (is, behind_too k l ms is all.1), all)
put_ordered_at Equal k l d e ms is one all later = (one, all.1, all.2)
put_ordered_at Greater k l d e ms is one all later =
    (all.0, put_behind l k d ms (less_back k l is) all.1, later)

put_ordered : (k : List ℕ) (d : Data) (ms : Members) → IsOrdered d → InOrder ms
    → InOrder (put k d ms)
put_ordered k d no_members one all = (one, tt, tt)
put_ordered k d (member l e ms) one all =
    put_ordered_at (order k l) k l d e ms refl one all (put_ordered k d ms one all.2)

-- ---- a member that is put where it was

none_behind : (k : List ℕ) (ms : Members) → AreBehind k ms → get_member k ms ≡ None
none_behind k no_members all = refl
none_behind k (member l e ms) all = rw all.0 (none_behind k ms all.1)

put_back_at : (o : Ordering) (k l : List ℕ) (d e : Data) (ms : Members) → order k l ≡ o
    → AreBehind l ms → (get_member k ms ≡ Some d → put k d ms ≡ ms)
    → match_ordering o (get_member k ms) (Some e) (get_member k ms) ≡ Some d
    → match_ordering o (member k d (member l e ms)) (member l d ms) (member l e (put k d ms))
    ≡ member l e ms
put_back_at Less k l d e ms is all later found =
    let none : get_member k ms ≡ None = none_behind k ms (behind_too k l ms is all) in
    cc
put_back_at Equal k l d e ms is all later found = let same : e ≡ d = cc in cc
put_back_at Greater k l d e ms is all later found =
    ap (λ (ns : Members). member l e ns) (later found)

pub put_back : (k : List ℕ) (d : Data) (ms : Members) → InOrder ms
    → get_member k ms ≡ Some d → put k d ms ≡ ms
put_back k d no_members all found = cc
put_back k d (member l e ms) all found =
    put_back_at (order k l) k l d e ms refl all.1 (put_back k d ms all.2) found

-- ---- members

get_ordered_at : (o : Ordering) (k : List ℕ) (d e : Data) (ms : Members) → IsOrdered e
    → (get_member k ms ≡ Some d → IsOrdered d)
    → match_ordering o (get_member k ms) (Some e) (get_member k ms) ≡ Some d → IsOrdered d
get_ordered_at Less k d e ms one later found = later found
get_ordered_at Equal k d e ms one later found = let same : e ≡ d = cc in subst IsOrdered same one
get_ordered_at Greater k d e ms one later found = later found

pub get_ordered : (k : List ℕ) (d : Data) (ms : Members) → InOrder ms → get_member k ms ≡ Some d
    → IsOrdered d
get_ordered k d no_members all found = cc
get_ordered k d (member l e ms) all found =
    get_ordered_at (order k l) k d e ms all.0 (get_ordered k d ms all.2) found

-- ---- values of texts

abbrev Holds : {A : Type 0} → (A → Type 0) → Option A → Type 0
Holds P None = ⊤
Holds P (Some a) = P a

mapped : {A B : Type 0} (P : A → Type 0) (Q : B → Type 0) (h : A → B)
    → ((a : A) → P a → Q (h a)) → (o : Option A) → Holds P o → Holds Q (option_map h o)
mapped P Q h keeps None x = tt
mapped P Q h keeps (Some a) x = keeps a x

and_then : {A B : Type 0} (P : A → Type 0) (Q : B → Type 0) (h : A → Option B)
    → ((a : A) → P a → Holds Q (h a)) → (o : Option A) → Holds P o
    → Holds Q (option_and_then h o)
and_then P Q h keeps None x = tt
and_then P Q h keeps (Some a) x = keeps a x

any : {A : Type 0} (o : Option A) → Holds (λ (a : A). ⊤) o
any None = tt
any (Some a) = tt

mutual
  value_ordered : (j : json.Json) → Holds IsOrdered (of_json j)
  value_ordered json.null = tt
  value_ordered (json.boolean b) = tt
  value_ordered (json.number s) =
      mapped (λ (n : Num). ⊤) IsOrdered number (λ n x. tt) (number_of s) (any (number_of s))
  value_ordered (json.string s) = tt
  value_ordered (json.array js) =
      mapped AreOrdered IsOrdered array (λ ds x. x) (of_items js) (items_ordered js)
  value_ordered (json.object ms) =
      mapped InOrder IsOrdered object (λ es x. x) (of_members ms no_members)
      (members_ordered ms no_members tt)

  items_ordered : (js : json.Items) → Holds AreOrdered (of_items js)
  items_ordered json.no_items = tt
  items_ordered (json.item j js) =
      and_then IsOrdered AreOrdered (λ d. option_map (item d) (of_items js))
      (λ d one. mapped AreOrdered AreOrdered (item d) (λ ds all. (one, all)) (of_items js)
      (items_ordered js))
      (of_json j) (value_ordered j)

  members_ordered : (ms : json.Members) (found : Members) → InOrder found
      → Holds InOrder (of_members ms found)
  members_ordered json.no_members found all = all
  members_ordered (json.member k j ms) found all =
      and_then IsOrdered InOrder (λ d. of_members ms (put k d found))
      (λ d one. members_ordered ms (put k d found) (put_ordered k d found one all))
      (of_json j) (value_ordered j)

pub read_ordered : (text : List ℕ) (d : Data) → read text ≡ Some d → IsOrdered d
read_ordered text d is =
    subst (Holds IsOrdered) is
    (and_then (λ (j : json.Json). ⊤) IsOrdered of_json (λ j x. value_ordered j)
    (option_and_then (λ (p : json.Json × List Token). json.if_last p.0 p.1)
    (json.value max_depth (tokens text)))
    (any _))
