-- The members of an object, gone over one after the other. Those with unknown names are copied.
use Rattle.std.proofs.Common.{◌≡◌, ℕ, List, [], ◌∷◌, ◌++◌, map, None, String, Global, Bor}
use Rattle.std.proofs.Common.{Bool, true, false, ◌||◌, if◌then◌else◌, string_bytes, string_cmp}
use Rattle.std.proofs.Common.{bytes_eq, sym, refl, ap, ap₂, ◌∙◌, subst, true≢false, append_assoc}
use Rattle.std.proofs.lemmas.Cmp.{nat_list_eq_equiv}
use Rattle.std.proofs.lemmas.Slice.Eq.{bytes_eq-Decides}
use Rattle.std.specs.BTreeMap.{insert_entry}
use Rattle.std.specs.List.{list_any}
use Rattle.std.specs.List.Sorted.{IsStrictlySortedBy}
use Rattle.std.specs.Map.{keys_of}
use Rattle.serde_json.specs.Data.{Data, Members, put}
use Rattle.serde_json.specs.Find.{get_member}
use Rattle.serde_json.specs.View.{view, members_view}
use Rattle.serde_json.specs.declared.value.Value.{Value}
use Rattle.serde_json.proofs.Views.{Entry, members_view-insert_entry, put_last}
use Rattle.serde_json.proofs.Views.{get_member-put, get_member-put_other}
use Rattle.gltf_json_record.specs.Member.{is_one_of}

-- of the entries es of an object all but `left` were gone over, and fs has those with unknown names
pub record CopiedUpTo (known : List (List ℕ)) (es left fs : List Entry) : Type 0 where
  pub done : List Entry
  pub all : es ≡ done ++ left
  pub copied : (q : List ℕ) → get_member q (members_view fs)
      ≡ (if is_one_of known q then None else get_member q (members_view done))

known_or_not : (known : List (Bor (List ℕ))) (name : List ℕ)
    → list_any (λ k. bytes_eq k.now name) known ≡ is_one_of (map (λ k. k.now) known) name
known_or_not [] name = refl
known_or_not (k ∷ known) name =
    ap₂ (λ a b. a || b) (nat_list_eq_equiv.symm k.now name) (known_or_not known name)

-- whether a name is known, as `contains` found of its text
pub known_by_contains : (known : List (Bor (List ℕ))) (text name : List ℕ) (found b : Bool)
    → text ≡ name → found ≡ list_any (λ k. bytes_eq k.now text) known → found ≡ b
    → is_one_of (map (λ k. k.now) known) name ≡ b
known_by_contains known text name found b same tells is =
    ap (is_one_of (map (λ k. k.now) known)) (sym same) ∙ sym (known_or_not known text)
    ∙ sym tells ∙ is

-- ---- one more member

apart : (q k : List ℕ) → bytes_eq q k ≡ false → q ≡ k → ⊥
apart q k other same = true≢false (sym ((bytes_eq-Decides q k).1 same) ∙ other)

-- d stands at the known name k: whether k is left out makes no difference
known_at : (q k : List ℕ) (d : Data) (ms : Members) (known same : Bool) → bytes_eq q k ≡ same
    → (q ≡ k → known ≡ true)
    → (if known then None else get_member q ms)
    ≡ (if known then None else get_member q (put k d ms))
known_at q k d ms true same is here = refl
known_at q k d ms false true is here =
    absurd (true≢false (sym (here ((bytes_eq-Decides q k).0 is))))
known_at q k d ms false false is here = sym (get_member-put_other q k d ms (apart q k is))

-- d is put at the unknown name k of both
unknown_at : (q k : List ℕ) (d : Data) (ms ns : Members) (known same : Bool) → bytes_eq q k ≡ same
    → (q ≡ k → known ≡ false) → get_member q ns ≡ (if known then None else get_member q ms)
    → get_member q (put k d ns) ≡ (if known then None else get_member q (put k d ms))
unknown_at q k d ms ns true true is here before =
    absurd (true≢false (here ((bytes_eq-Decides q k).0 is)))
unknown_at q k d ms ns false true is here before =
    rw ((bytes_eq-Decides q k).0 is) (get_member-put k d ns ∙ sym (get_member-put k d ms))
unknown_at q k d ms ns known false is here before =
    get_member-put_other q k d ns (apart q k is) ∙ before
    ∙ ap (λ r. if known then None else r) (sym (get_member-put_other q k d ms (apart q k is)))

-- the next entry goes after those that were passed
placed : (done rest : List Entry) (e : Entry) (es : List Entry)
    → IsStrictlySortedBy string_cmp (keys_of es) → es ≡ done ++ e ∷ rest
    → put (string_bytes e.0) (view e.1) (members_view done) ≡ members_view (done ++ e ∷ [])
placed done rest e es sorted all = put_last done e rest
    (subst (λ (xs : List Entry). IsStrictlySortedBy string_cmp (keys_of xs)) all sorted)

-- ---- the walk

pub known_skipped : (known : List (List ℕ)) (es left rest fs : List Entry) (e : Entry)
    → IsStrictlySortedBy string_cmp (keys_of es) → left ≡ e ∷ rest
    → is_one_of known (string_bytes e.0) ≡ true
    → CopiedUpTo known es left fs → CopiedUpTo known es rest fs
known_skipped known es left rest fs e sorted next is before =
    let all : es ≡ before.done ++ e ∷ rest = before.all ∙ ap (λ r. before.done ++ r) next in
    let name = string_bytes e.0 in
    record {
      done = before.done ++ e ∷ [];
      all = all ∙ sym (append_assoc before.done (e ∷ []) rest);
      copied = λ q. before.copied q
          ∙ known_at q name (view e.1) (members_view before.done) (is_one_of known q)
          (bytes_eq q name) refl (λ same. ap (is_one_of known) same ∙ is)
          ∙ ap (λ ms. if is_one_of known q then None else get_member q ms)
          (placed before.done rest e es sorted all);
    }

pub unknown_copied : (known : List (List ℕ)) (es left rest fs gs : List Entry) (e : Entry)
    (name : String Global) (value : Value)
    → IsStrictlySortedBy string_cmp (keys_of es) → left ≡ e ∷ rest
    → is_one_of known (string_bytes e.0) ≡ false
    → string_bytes name ≡ string_bytes e.0 → view value ≡ view e.1
    → gs ≡ insert_entry string_cmp fs name value
    → CopiedUpTo known es left fs → CopiedUpTo known es rest gs
unknown_copied known es left rest fs gs e name value sorted next is named shown inserted before =
    let all : es ≡ before.done ++ e ∷ rest = before.all ∙ ap (λ r. before.done ++ r) next in
    let put_there : members_view gs ≡ put (string_bytes e.0) (view e.1) (members_view fs) =
    ap members_view inserted ∙ members_view-insert_entry fs name value
    ∙ rw (named, shown) refl in
    record {
      done = before.done ++ e ∷ [];
      all = all ∙ sym (append_assoc before.done (e ∷ []) rest);
      copied = λ q. ap (get_member q) put_there
          ∙ unknown_at q (string_bytes e.0) (view e.1) (members_view before.done)
          (members_view fs) (is_one_of known q) (bytes_eq q (string_bytes e.0)) refl
          (λ same. ap (is_one_of known) same ∙ is) (before.copied q)
          ∙ ap (λ ms. if is_one_of known q then None else get_member q ms)
          (placed before.done rest e es sorted all);
    }
