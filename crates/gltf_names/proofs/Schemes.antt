-- Whether bytes of a scheme and a `:` stand at the front, found byte by byte.
use Rattle.std.proofs.Common.{◌≡◌, ℕ, ◌+◌, ◌<◌, ◌≤◌, List, [], ◌∷◌, ◌++◌, length, get_or, drop}
use Rattle.std.proofs.Common.{Bool, true, false, if◌then◌else◌, ◌==◌}
use Rattle.std.proofs.Common.{◌↔◌, IsTrue, All, refl, ap, sym, ◌∙◌}
use Rattle.std.proofs.lemmas.Bool.{eqb-true, ne_eqb, false≢true, true≢false}
use Rattle.std.proofs.lemmas.List.{at_drop_more, at_drop_all}
use Rattle.std.proofs.lemmas.List.Elements.{All-nil, All-cons, All-head, All-tail}
use Rattle.gltf_names.specs.Inside.{is_in_scheme, EndsScheme}

abbrev pub ends : List ℕ → Bool
ends [] = false
ends (b ∷ bs) = if b == 58 then true else (if is_in_scheme b then ends bs else false)

abbrev Passes : ℕ → Type 0
Passes b = is_in_scheme b ≡ true

one_more : (b : ℕ) (bs : List ℕ) → is_in_scheme b ≡ true → EndsScheme bs → EndsScheme (b ∷ bs)
one_more b bs passes e = (
  b ∷ e.0,
  e.1,
  ap (λ (xs : List ℕ). b ∷ xs) e.2,
  All-cons Passes b e.0 passes e.3,
)

ends_step : (b : ℕ) (bs : List ℕ) (z s : Bool) → (b == 58) ≡ z → is_in_scheme b ≡ s
    → (ends bs ≡ true → EndsScheme bs)
    → (if z then true else (if s then ends bs else false)) ≡ true → EndsScheme (b ∷ bs)
ends_step b bs true s is passes more e =
    ([], bs, ap (λ (x : ℕ). x ∷ bs) (eqb-true b 58 is), All-nil Passes)
ends_step b bs false true is passes more e = one_more b bs passes (more e)
ends_step b bs false false is passes more e = absurd (false≢true e)

pub ends-is : (bs : List ℕ) → ends bs ≡ true → EndsScheme bs
ends-is [] e = absurd (false≢true e)
ends-is (b ∷ bs) e = ends_step b bs (b == 58) (is_in_scheme b) refl refl (ends-is bs) e

passed : (z s x : Bool) → s ≡ true → x ≡ true → (if z then true else (if s then x else false)) ≡ true
passed true s x is e = refl
passed false true x is e = e
passed false false x is e = absurd (false≢true is)

ends_behind : (more rest : List ℕ) → All Passes more → ends (more ++ 58 ∷ rest) ≡ true
ends_behind [] rest all = refl
ends_behind (b ∷ more) rest all =
    passed (b == 58) (is_in_scheme b) (ends (more ++ 58 ∷ rest)) (All-head Passes b more all)
    (ends_behind more rest (All-tail Passes b more all))

pub is-ends : (bs : List ℕ) → EndsScheme bs → ends bs ≡ true
is-ends bs e = ap ends e.2 ∙ ends_behind e.0 e.1 e.3

pub decided : (r : Bool) (bs : List ℕ) → r ≡ ends bs → IsTrue r ↔ EndsScheme bs
decided r bs same = (λ t. ends-is bs (sym same ∙ t), λ e. same ∙ is-ends bs e)

-- where the byte at i is a `:`, and all before it are of a scheme
pub at_colon : (bs : List ℕ) (i : ℕ) → i < length bs → get_or bs i 0 ≡ 58
    → ends (drop i bs) ≡ ends bs → IsTrue true ↔ EndsScheme bs
at_colon bs i in' is same =
    decided true bs (sym (ap (λ (b : ℕ). ends (b ∷ drop (i + 1) bs)) is)
    ∙ sym (at_drop_more ends bs i 0 in') ∙ same)

other : (b : ℕ) (bs : List ℕ) (z s : Bool) → z ≡ false → s ≡ false
    → (if z then true else (if s then ends bs else false)) ≡ false
other b bs true s is fails = absurd (true≢false is)
other b bs false true is fails = absurd (true≢false fails)
other b bs false false is fails = refl

-- where it is neither, and all before it are
pub at_other : (bs : List ℕ) (i : ℕ) → i < length bs → (get_or bs i 0 ≡ 58 → ⊥)
    → is_in_scheme (get_or bs i 0) ≡ false → ends (drop i bs) ≡ ends bs
    → IsTrue false ↔ EndsScheme bs
at_other bs i in' unlike fails same =
    let b = get_or bs i 0 in
    decided false bs (sym (other b (drop (i + 1) bs) (b == 58) (is_in_scheme b)
    (ne_eqb b 58 unlike) fails) ∙ sym (at_drop_more ends bs i 0 in') ∙ same)

-- where all are
pub at_end : (bs : List ℕ) (i : ℕ) → length bs ≤ i → ends (drop i bs) ≡ ends bs
    → IsTrue false ↔ EndsScheme bs
at_end bs i past same = decided false bs (sym (at_drop_all ends bs i past) ∙ same)
