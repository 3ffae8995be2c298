-- Items that are written one after another to the front of a list.
use Rattle.std.proofs.Common.{◌≡◌, ℕ, suc, ◌+◌, ◌*◌, ◌≤◌, List, [], ◌∷◌, ◌++◌, length}
use Rattle.std.proofs.Common.{take, drop, refl, sym, ap, subst, ◌∙◌, arith}
use Rattle.std.proofs.lemmas.List.{take-append-drop, append_assoc, append-nil, drop-drop}
use Rattle.std.proofs.lemmas.List.{length-take-le, length-drop, length-append, take_at, drop_at}
use Rattle.std.specs.List.{concat}

-- `out` has room for all; it begins with those that are not left, up to `at`, and goes on as it was
pub record Written (n : ℕ) (all : List (List ℕ)) (old : List ℕ) (left : List (List ℕ)) (at : ℕ)
    (out : List ℕ) : Type 0 where
  pub fits : length all * n ≤ length out
  pub counted : at + length left * n ≡ length all * n
  pub front : take at out ++ concat left ≡ concat all
  pub behind : drop at out ≡ drop at old

pub start : (n : ℕ) (all : List (List ℕ)) (old : List ℕ) → length all * n ≤ length old
    → Written n all old all 0 old
start n all old fits =
    record { fits = fits; counted = omega arith; front = refl; behind = refl }

-- where an item is left, there is room for it
pub room : (n : ℕ) (all : List (List ℕ)) (old : List ℕ) (left : List (List ℕ)) (at : ℕ)
    (out : List ℕ) (x : List ℕ) (rest : List (List ℕ)) → left ≡ x ∷ rest
    → Written n all old left at out → at + n ≤ length out
room n all old left at out x rest is w =
    let some : length left ≡ suc (length rest) = ap (λ (l : List (List ℕ)). length l) is in
    let one : length left * n ≡ n + length rest * n =
    ap (λ (k : ℕ). k * n) some ∙ omega arith in
    omega (arith, one, w.counted, w.fits)

-- and then it is written there
pub next : (n : ℕ) (all : List (List ℕ)) (old : List ℕ) (left : List (List ℕ)) (at : ℕ)
    (out : List ℕ) (x : List ℕ) (rest : List (List ℕ)) → left ≡ x ∷ rest
    → Written n all old left at out → length x ≡ n
    → Written n all old rest (at + n) (take at out ++ x ++ drop (at + n) out)
next n all old left at out x rest is w len =
    let within : at + n ≤ length out = room n all old left at out x rest is w in
    let w' : Written n all old (x ∷ rest) at out =
    subst (λ (l : List (List ℕ)). Written n all old l at out) is w in
    let one : suc (length rest) * n ≡ n + length rest * n = omega arith in
    let before : length (take at out ++ x) ≡ at + n =
    length-append (take at out) x
    ∙ omega (arith, len, length-take-le at out (omega (arith, within))) in
    let taken = take_at (take at out ++ x) (drop (at + n) out) (at + n) before in
    let left_over = drop_at (take at out ++ x) (drop (at + n) out) (at + n) before in
    let whole : length (take at out ++ x ++ drop (at + n) out) ≡ length out =
    length-append (take at out ++ x) (drop (at + n) out)
    ∙ omega (arith, before, length-drop (at + n) out, within) in
    record {
      fits = subst (λ (l : ℕ). length all * n ≤ l) (sym whole) w.fits;
      counted = omega (arith, one, w'.counted);
      front =
          ap (λ (z : List ℕ). z ++ concat rest) taken
          ∙ append_assoc (take at out) x (concat rest) ∙ w'.front;
      behind =
          left_over ∙ sym (drop-drop n at out) ∙ ap (drop n) w.behind ∙ drop-drop n at old;
    }

pub done : (n : ℕ) (all : List (List ℕ)) (old : List ℕ) (left : List (List ℕ)) (at : ℕ)
    (out : List ℕ)
    → left ≡ [] → Written n all old left at out
    → out ≡ concat all ++ drop (length all * n) old
done n all old left at out is w =
    let w' : Written n all old [] at out =
    subst (λ (l : List (List ℕ)). Written n all old l at out) is w in
    let count : at ≡ length all * n = omega (arith, w'.counted) in
    sym (take-append-drop at out)
    ∙ ap (λ (z : List ℕ). z ++ drop at out) (sym (append-nil (take at out)) ∙ w'.front)
    ∙ ap (λ (z : List ℕ). concat all ++ z)
    (w'.behind ∙ ap (λ (k : ℕ). drop k old) count)
