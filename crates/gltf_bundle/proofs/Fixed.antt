-- Members that stand in their place: to put one there once more changes nothing.
use Rattle.std.proofs.Common.{◌≡◌, ℕ, List, Option, Some, None, Ordering, Less, Equal, Greater}
use Rattle.std.proofs.Common.{nat_cmp, ◌⊎◌, inl, inr, refl, sym, ap, ◌∙◌}
use Rattle.std.proofs.lemmas.Cmp.{nat_list_cmp_total, tied_itself}
use Rattle.std.proofs.lemmas.Map.Lookups.{exact_bytes}
use Rattle.std.specs.Cmp.Lexicographic.{slice_cmp}
use Rattle.std.specs.Ordering.{match_ordering, ordering_reverse}
use Rattle.std.specs.Prelude.{⊤}
use Rattle.serde_json.specs.Data.{Data, null, boolean, number, string, array, object, Members}
use Rattle.serde_json.specs.Data.{no_members, member, put}
use Rattle.gltf_edit.specs.Bundled.{with_member, with_some}

abbrev order : List ℕ → List ℕ → Ordering
order k l = slice_cmp nat_cmp k l

-- the member k is where `put` puts it, with the value v
abbrev Stands : List ℕ → Data → Members → Type 0
Stands k v no_members = ⊥
Stands k v (member l e ms) =
    ((order k l ≡ Equal) × (e ≡ v)) ⊎ ((order k l ≡ Greater) × Stands k v ms)

put_stands_at : (o : Ordering) (k l : List ℕ) (v e : Data) (ms : Members) → order k l ≡ o
    → Stands k v (put k v ms)
    → Stands k v
    (match_ordering o (member k v (member l e ms)) (member l v ms) (member l e (put k v ms)))
put_stands_at Less k l v e ms is later = inl (tied_itself nat_list_cmp_total k, refl)
put_stands_at Equal k l v e ms is later = inl (is, refl)
put_stands_at Greater k l v e ms is later = inr (is, later)

put_stands : (k : List ℕ) (v : Data) (ms : Members) → Stands k v (put k v ms)
put_stands k v no_members = inl (tied_itself nat_list_cmp_total k, refl)
put_stands k v (member l e ms) = put_stands_at (order k l) k l v e ms refl (put_stands k v ms)

same_put : (k : List ℕ) (v : Data) (ms : Members) → Stands k v ms → put k v ms ≡ ms
same_put k v no_members stands = absurd stands
same_put k v (member l e ms) (inl here) =
    rw here.0 (ap (λ (d : Data). member l d ms) (sym here.1))
same_put k v (member l e ms) (inr later) =
    rw later.0 (ap (λ (ns : Members). member l e ns) (same_put k v ms later.1))

-- l is before m, and k is m or behind it
behind_same : (k l m : List ℕ) → order l m ≡ Less → order k m ≡ Equal → order k l ≡ Greater
behind_same k l m before is =
    nat_list_cmp_total.congr k m l is ∙ nat_list_cmp_total.antisymm m l
    ∙ ap ordering_reverse before

behind : (k l m : List ℕ) → order l m ≡ Less → order k m ≡ Greater → order k l ≡ Greater
behind k l m before is =
    let later : order m k ≡ Less = nat_list_cmp_total.antisymm m k ∙ ap ordering_reverse is in
    let first : order l k ≡ Less = nat_list_cmp_total.trans l m k before later in
    nat_list_cmp_total.antisymm k l ∙ ap ordering_reverse first

other_put_at : (o : Ordering) (k l m : List ℕ) (v w e : Data) (ms : Members) → order l m ≡ o
    → (k ≡ l → ⊥) → Stands k v (member m e ms) → (Stands k v ms → Stands k v (put l w ms))
    → Stands k v
    (match_ordering o (member l w (member m e ms)) (member m w ms) (member m e (put l w ms)))
other_put_at Less k l m v w e ms is apart (inl here) later =
    inr (behind_same k l m is here.0, inl here)
other_put_at Less k l m v w e ms is apart (inr there) later =
    inr (behind k l m is there.0, inr there)
other_put_at Equal k l m v w e ms is apart (inl here) later =
    absurd (apart (exact_bytes k m here.0 ∙ sym (exact_bytes l m is)))
other_put_at Equal k l m v w e ms is apart (inr there) later = inr there
other_put_at Greater k l m v w e ms is apart (inl here) later = inl here
other_put_at Greater k l m v w e ms is apart (inr there) later = inr (there.0, later there.1)

other_put : (k l : List ℕ) (v w : Data) (ms : Members) → (k ≡ l → ⊥) → Stands k v ms
    → Stands k v (put l w ms)
other_put k l v w no_members apart stands = absurd stands
other_put k l v w (member m e ms) apart stands =
    other_put_at (order l m) k l m v w e ms refl apart stands
    (λ (there : Stands k v ms). other_put k l v w ms apart there)

-- ---- values

-- the same of a value, where it is an object
abbrev pub IsSet : List ℕ → Data → Data → Type 0
IsSet k v null = ⊤
IsSet k v (boolean b) = ⊤
IsSet k v (number n) = ⊤
IsSet k v (string s) = ⊤
IsSet k v (array ds) = ⊤
IsSet k v (object ms) = Stands k v ms

pub set_with : (k : List ℕ) (v d : Data) → IsSet k v (with_member k v d)
set_with k v null = tt
set_with k v (boolean b) = tt
set_with k v (number n) = tt
set_with k v (string s) = tt
set_with k v (array ds) = tt
set_with k v (object ms) = put_stands k v ms

pub same_with : (k : List ℕ) (v d : Data) → IsSet k v d → with_member k v d ≡ d
same_with k v null is = refl
same_with k v (boolean b) is = refl
same_with k v (number n) is = refl
same_with k v (string s) is = refl
same_with k v (array ds) is = refl
same_with k v (object ms) is = ap object (same_put k v ms is)

pub kept_with : (k l : List ℕ) (v w d : Data) → (k ≡ l → ⊥) → IsSet k v d
    → IsSet k v (with_member l w d)
kept_with k l v w null apart is = tt
kept_with k l v w (boolean b) apart is = tt
kept_with k l v w (number n) apart is = tt
kept_with k l v w (string s) apart is = tt
kept_with k l v w (array ds) apart is = tt
kept_with k l v w (object ms) apart is = other_put k l v w ms apart is

pub kept_with_some : (k l : List ℕ) (v : Data) (o : Option Data) (d : Data) → (k ≡ l → ⊥)
    → IsSet k v d → IsSet k v (with_some l o d)
kept_with_some k l v None d apart is = is
kept_with_some k l v (Some w) d apart is = kept_with k l v w d apart is
