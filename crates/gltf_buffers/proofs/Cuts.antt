-- `cut_at` cuts where std's search finds a text first.
use Rattle.std.proofs.Common.{ℕ, ◌≡◌, ◌<◌, ◌≤◌, ◌+◌, zero, suc, Bool, true, false, List, [], ◌∷◌}
use Rattle.std.proofs.Common.{◌++◌, length, take, drop, refl, ap, arith}
use Rattle.std.specs.Prelude.{Option, Some, None, MatchOption, option_map, is_some}
use Rattle.std.specs.Bool.{MatchBool}
use Rattle.std.specs.Borrow.{Bor}
use Rattle.std.specs.Str.Pattern.{LacksTextAt, FindsText, HasMatch, SplitsAroundMatch}
use Rattle.std.proofs.lemmas.List.{length-append}
use Rattle.gltf_buffers.specs.Uri.{cut_at}
use Rattle.gltf_buffers.proofs.Prefixes.{begins, begins_not}

cut_none : (n s : List ℕ) → ((i : ℕ) → i ≤ length s → LacksTextAt n s i) → cut_at n s ≡ None
unfolding cut_at
cut_none n [] lacks = refl
cut_none n (b ∷ s) lacks =
    rw (
      begins_not n (b ∷ s) (lacks 0 (omega arith)),
      cut_none n s
          (λ i l. lacks (suc i) (omega arith)),
    ) refl

cut_some : (n s : List ℕ) (i j : ℕ) → 0 < length n → ((k : ℕ) → k < i → LacksTextAt n s k)
    → drop i s ≡ n ++ drop j s → j ≡ i + length n
    → cut_at n s ≡ Some (take i s, drop j s)
unfolding cut_at
cut_some n [] zero j some lacks at ends =
    absurd (omega (arith, simp length-append at (ap length at)))
cut_some n [] (suc i) j some lacks at ends =
    absurd (omega (arith, simp length-append at (ap length at)))
cut_some n (b ∷ s) zero j some lacks at ends =
    let e : j ≡ length n = omega arith in
    rw (begins n (b ∷ s) (drop j (b ∷ s)) at, e) refl
cut_some n (b ∷ s) (suc i) j some lacks at ends =
    let e : j ≡ suc (i + length n) = omega arith in
    let further =
    cut_some n s i (i + length n) some (λ k l. lacks (suc k) (omega arith)) (rw e at at) refl in
    rw (e, begins_not n (b ∷ s) (lacks 0 (omega arith)), further) refl

pub split_text : (n s : List ℕ) (r : Option (Bor (List ℕ) × Bor (List ℕ))) → 0 < length n
    → MatchOption r (FindsText n s None) (λ x. SplitsAroundMatch (FindsText n) s x.0.now x.1.now)
    → option_map (λ x. (x.0.now, x.1.now)) r ≡ cut_at n s
split_text n s None some cases = rw (cut_none n s cases) refl
split_text n s (Some x) some (i, j, finds, front, back, _, _, _) =
    rw (front, back, cut_some n s i j some finds.0 finds.1.split finds.1.ends) refl

pub contains_mark : (n s : List ℕ) (r : Bool) → 0 < length n
    → MatchBool r (HasMatch (FindsText n) s) (FindsText n s None) → is_some (cut_at n s) ≡ r
contains_mark n s true some (i, j, finds, _, _) =
    rw (cut_some n s i j some finds.0 finds.1.split finds.1.ends) refl
contains_mark n s false some none = rw (cut_none n s none) refl
