-- The nodes that are left in a list.
use Rattle.std.proofs.Common.{◌≡◌, ℕ, suc, ◌+◌, ◌-◌, ◌<◌, ◌≤◌, List, [], ◌∷◌, length, take, drop}
use Rattle.std.proofs.Common.{get_or, Some, ap, ◌∙◌, arith}
use Rattle.std.specs.Prelude.{slice_get, slice_range}
use Rattle.std.proofs.Math.Seq.{drop-cons}
use Rattle.std.proofs.lemmas.List.{take_all}
use Rattle.std.proofs.lemmas.Option.{slice_get_within, get_or_from_slice_get}

pub left_first : (xs : List ℕ) (next end x : ℕ) → next < end → slice_get xs next ≡ Some x
    → slice_range xs next end ≡ x ∷ slice_range xs (next + 1) end
left_first xs next end x more at =
    let inside : next < length xs = slice_get_within xs next x at in
    let here : get_or xs next x ≡ x = get_or_from_slice_get xs next x x at in
    let others : ℕ = end - (next + 1) in
    let count : end - next ≡ suc others = omega arith in
    let behind : suc next ≡ next + 1 = omega arith in
    ap (λ (n : ℕ). take n (drop next xs)) count
    ∙ ap (take (suc others)) (drop-cons xs next x inside)
    ∙ ap (λ (y : ℕ). y ∷ take others (drop (suc next) xs)) here
    ∙ ap (λ (n : ℕ). x ∷ take others (drop n xs)) behind

pub none_left : (xs : List ℕ) (next end : ℕ) → end ≤ next → slice_range xs next end ≡ []
none_left xs next end past =
    let none : end - next ≡ 0 = omega arith in
    ap (λ (n : ℕ). take n (drop next xs)) none

pub all_left : (xs : List ℕ) → slice_range xs 0 (length xs) ≡ xs
all_left xs = take_all (length xs - 0) xs (omega arith)
