-- Members that are put into an object one after the other: lemmas.
use Rattle.std.proofs.Common.{◌≡◌, ℕ, List, Option, Some, None, Ordering, Less, Equal, Greater}
use Rattle.std.proofs.Common.{nat_cmp, is_eq, refl, ap, sym, ◌∙◌}
use Rattle.std.proofs.lemmas.Cmp.{nat_list_cmp_total}
use Rattle.std.proofs.lemmas.Map.Text.{is_eq-slice_cmp}
use Rattle.std.proofs.lemmas.Slice.Eq.{bytes_eq-Decides}
use Rattle.std.specs.Cmp.Lexicographic.{slice_cmp}
use Rattle.std.specs.Ordering.{ordering_reverse}
use Rattle.serde_json.specs.Data.{Data, null, boolean, number, string, array, object}
use Rattle.serde_json.specs.Data.{Members, no_members, member, put}
use Rattle.gltf_edit.specs.Bundled.{with_member, with_some}

abbrev order : List ℕ → List ℕ → Ordering
order k l = slice_cmp nat_cmp k l

back : (o : Ordering) (k l : List ℕ) → order k l ≡ o → order l k ≡ ordering_reverse o
back o k l is = nat_list_cmp_total.antisymm l k ∙ ap ordering_reverse is

put_before : (k : List ℕ) (d : Data) (l : List ℕ) (e : Data) (ms : Members) → order k l ≡ Less
    → put k d (member l e ms) ≡ member k d (member l e ms)
put_before k d l e ms is = rw is refl

put_at : (k : List ℕ) (d : Data) (l : List ℕ) (e : Data) (ms : Members) → order k l ≡ Equal
    → put k d (member l e ms) ≡ member l d ms
put_at k d l e ms is = rw is refl

put_behind : (k : List ℕ) (d : Data) (l : List ℕ) (e : Data) (ms : Members) → order k l ≡ Greater
    → put k d (member l e ms) ≡ member l e (put k d ms)
put_behind k d l e ms is = rw is refl

module _ (k l : List ℕ) (d e : Data) (less : order k l ≡ Less) where
  greater : order l k ≡ Greater
  greater = back Less k l less

  swap_at : (o p : Ordering) (m : List ℕ) (x : Data) (ms : Members) → order l m ≡ o
      → order k m ≡ p → put k d (put l e ms) ≡ put l e (put k d ms)
      → put k d (put l e (member m x ms)) ≡ put l e (put k d (member m x ms))
  swap_at Less p m x ms at before later =
      let first : order k m ≡ Less = nat_list_cmp_total.trans k l m less at in
      ap (put k d) (put_before l e m x ms at)
      ∙ put_before k d l e (member m x ms) less
      ∙ ap (member k d) (sym (put_before l e m x ms at))
      ∙ sym (put_behind l e k d (member m x ms) greater)
      ∙ ap (put l e) (sym (put_before k d m x ms first))
  swap_at Equal p m x ms at before later =
      let first : order k m ≡ Less =
      back Greater m k (sym (nat_list_cmp_total.congr l m k at) ∙ greater) in
      ap (put k d) (put_at l e m x ms at)
      ∙ put_before k d m e ms first
      ∙ ap (member k d) (sym (put_at l e m x ms at))
      ∙ sym (put_behind l e k d (member m x ms) greater)
      ∙ ap (put l e) (sym (put_before k d m x ms first))
  swap_at Greater Less m x ms at before later =
      ap (put k d) (put_behind l e m x ms at)
      ∙ put_before k d m x (put l e ms) before
      ∙ ap (member k d) (sym (put_behind l e m x ms at))
      ∙ sym (put_behind l e k d (member m x ms) greater)
      ∙ ap (put l e) (sym (put_before k d m x ms before))
  swap_at Greater Equal m x ms at before later =
      ap (put k d) (put_behind l e m x ms at)
      ∙ put_at k d m x (put l e ms) before
      ∙ sym (put_behind l e m d ms at)
      ∙ ap (put l e) (sym (put_at k d m x ms before))
  swap_at Greater Greater m x ms at before later =
      ap (put k d) (put_behind l e m x ms at)
      ∙ put_behind k d m x (put l e ms) before
      ∙ ap (member m x) later
      ∙ sym (put_behind l e m x (put k d ms) at)
      ∙ ap (put l e) (sym (put_behind k d m x ms before))

  swap_less : (ms : Members) → put k d (put l e ms) ≡ put l e (put k d ms)
  swap_less no_members =
      put_before k d l e no_members less ∙ sym (put_behind l e k d no_members greater)
  swap_less (member m x ms) =
      swap_at (order l m) (order k m) m x ms refl refl (swap_less ms)

swap_by : (o : Ordering) (k l : List ℕ) (d e : Data) (ms : Members) → order k l ≡ o
    → (k ≡ l → ⊥) → put k d (put l e ms) ≡ put l e (put k d ms)
swap_by Less k l d e ms is apart = swap_less k l d e is ms
swap_by Equal k l d e ms is apart =
    absurd (apart ((bytes_eq-Decides k l).0 (sym (is_eq-slice_cmp k l) ∙ ap is_eq is)))
swap_by Greater k l d e ms is apart = sym (swap_less l k e d (back Greater k l is) ms)

-- two members may be put in either order
pub swap : (k l : List ℕ) (d e : Data) (ms : Members) → (k ≡ l → ⊥)
    → put k d (put l e ms) ≡ put l e (put k d ms)
swap k l d e ms apart = swap_by (order k l) k l d e ms refl apart

pub with_swap : (k l : List ℕ) (d e v : Data) → (k ≡ l → ⊥)
    → with_member k d (with_member l e v) ≡ with_member l e (with_member k d v)
with_swap k l d e null apart = refl
with_swap k l d e (boolean b) apart = refl
with_swap k l d e (number n) apart = refl
with_swap k l d e (string s) apart = refl
with_swap k l d e (array ds) apart = refl
with_swap k l d e (object ms) apart = ap object (swap k l d e ms apart)

pub some_swap : (k l : List ℕ) (o p : Option Data) (v : Data) → (k ≡ l → ⊥)
    → with_some k o (with_some l p v) ≡ with_some l p (with_some k o v)
some_swap k l None p v apart = refl
some_swap k l (Some d) None v apart = refl
some_swap k l (Some d) (Some e) v apart = with_swap k l d e v apart
