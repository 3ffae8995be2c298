-- How the least and the greatest number of a column stand to a further number, by the order of
-- floats.
use Rattle.std.proofs.Common.{◌≡◌, ◌⊎◌, inl, inr, Bool, true, false, ◌&&◌, ◌||◌, if◌then◌else◌}
use Rattle.std.proofs.Common.{refl, sym, ◌∙◌, ⊎_elim}
use Rattle.std.specs.Prelude.{T}
use Rattle.std.proofs.lemmas.Bool.{cases_Bool, false≢true, true≢false, both_ways}
use Rattle.std.proofs.lemmas.Float.{T_from_true, T_from_false, le_refl, le_of_lt, le_of_eq}
use Rattle.std.proofs.lemmas.Float.{lt-or-eq}
use Rattle.std.proofs.lemmas.Float.{le_of_not-lt, le_left, le_right, le_trans, lt_trans}
use Rattle.std.proofs.lemmas.Float.{lt_of_lt_of_le, lt_of_le_of_lt, eq_flip}
use Rattle.std.specs.Float.{Float, NotNan}
use Rattle.std.specs.Float.Ieee.{nan, inf, fin, is_nan, lt, le, eq}

holds : (b : Bool) → T b → b ≡ true
holds true h = refl
holds false h = absurd h

-- what is true exactly where one of two is
is_or : (a b c : Bool) → (a ≡ true → c ≡ true) → (b ≡ true → c ≡ true)
    → (c ≡ true → (a ≡ true) ⊎ (b ≡ true)) → c ≡ (a || b)
is_or a b true left right one = ⊎_elim (λ h. rw h refl) (λ h. or_true a b h) (one refl)
  where
    or_true : (a b : Bool) → b ≡ true → true ≡ (a || b)
    or_true true b h = refl
    or_true false b h = sym h
is_or true b false left right one = left refl
is_or false true false left right one = right refl
is_or false false false left right one = refl

-- the least number so far, or a further one, is below x: the least one then is
pub least_below : (m y x : Float) → NotNan m
    → lt (if lt y m then y else m) x ≡ (lt m x || lt y x)
least_below m y x number = ⊎_elim
    (λ less. rw less (is_or (lt m x) (lt y x) (lt y x)
    (λ below. holds (lt y x) (lt_trans y m x (T_from_true (lt y m) less)
    (T_from_true (lt m x) below)))
    (λ it. it) (λ it. inr it)))
    (λ more. rw more (is_or (lt m x) (lt y x) (lt m x) (λ it. it)
    (λ below. let under = T_from_true (lt y x) below in
    holds (lt m x) (lt_of_le_of_lt m y x
    (le_of_not-lt y m (le_left y x (le_of_lt y x under)) number (T_from_false (lt y m) more))
    under))
    (λ it. inl it)))
    (cases_Bool (lt y m))

-- the same above x
pub greatest_above : (m y x : Float) → NotNan m
    → lt x (if lt m y then y else m) ≡ (lt x m || lt x y)
greatest_above m y x number = ⊎_elim
    (λ more. rw more (is_or (lt x m) (lt x y) (lt x y)
    (λ above. holds (lt x y) (lt_trans x m y (T_from_true (lt x m) above)
    (T_from_true (lt m y) more)))
    (λ it. it) (λ it. inr it)))
    (λ less. rw less (is_or (lt x m) (lt x y) (lt x m) (λ it. it)
    (λ above. let over = T_from_true (lt x y) above in
    holds (lt x m) (lt_of_lt_of_le x y m over
    (le_of_not-lt m y number (le_right x y (le_of_lt x y over)) (T_from_false (lt m y) less))))
    (λ it. inl it)))
    (cases_Bool (lt m y))

-- with a further number there is one
pub has_further : (l g y : Float) → NotNan l → NotNan g → NotNan y
    → le (if lt y l then y else l) (if lt g y then y else g) ≡ true
has_further l g y nl ng ny = ⊎_elim
    (λ (less : lt y l ≡ true). ⊎_elim
    (λ (more : lt g y ≡ true). rw (less, more) (holds (le y y) (le_refl y ny)))
    (λ (under : lt g y ≡ false). rw (less, under) (holds (le y g)
    (le_of_not-lt g y ng ny (T_from_false (lt g y) under))))
    (cases_Bool (lt g y)))
    (λ (within : lt y l ≡ false).
    let over = le_of_not-lt y l ny nl (T_from_false (lt y l) within) in ⊎_elim
    (λ (more : lt g y ≡ true). rw (within, more) (holds (le l y) over))
    (λ (under : lt g y ≡ false). rw (within, under) (holds (le l g) (le_trans l y g over
    (le_of_not-lt g y ng ny (T_from_false (lt g y) under)))))
    (cases_Bool (lt g y)))
    (cases_Bool (lt y l))

front : (a b : Bool) → (a && b) ≡ true → a ≡ true
front true b h = refl
front false b h = absurd (false≢true h)

-- no number is above an infinite one; below one
top : (y : Float) → NotNan y → lt y (inf false) ≡ false → y ≡ inf false
unfolding lt is_nan
top nan n h = absurd n
top (inf true) n h = absurd (true≢false h)
top (inf false) n h = refl
top (fin s m e) n h = absurd (true≢false h)

bottom : (y : Float) → NotNan y → lt (inf true) y ≡ false → y ≡ inf true
unfolding lt is_nan
bottom nan n h = absurd n
bottom (inf true) n h = refl
bottom (inf false) n h = absurd (true≢false h)
bottom (fin s m e) n h = absurd (true≢false h)

-- where no number so far is below x: the least number then is x where the least one was, or the
-- further one is. The least one so far was there, or stood above all numbers
pub least_same : (m y x : Float) (there : Bool) → NotNan m → NotNan y
    → (there ≡ true) ⊎ (m ≡ inf false) → lt (if lt y m then y else m) x ≡ false
    → eq (if lt y m then y else m) x ≡ ((eq m x && there) || eq y x)
least_same m y x there nm ny was = ⊎_elim
    (λ less. rw less (λ above. is_or (eq m x && there) (eq y x) (eq y x)
    (λ same. absurd (both_ways (lt y x) above (holds (lt y x) (lt_of_lt_of_le y m x
    (T_from_true (lt y m) less) (le_of_eq m x (T_from_true (eq m x) (front _ _ same)))))))
    (λ it. it) (λ it. inr it)))
    (λ more. let over = le_of_not-lt y m ny nm (T_from_false (lt y m) more) in
    rw more (λ above. is_or (eq m x && there) (eq y x) (eq m x) (front _ _)
    (λ same. ⊎_elim
    (λ below. absurd (both_ways (lt m x) above (holds (lt m x) below)))
    (λ it. holds (eq m x) it)
    (lt-or-eq m x (le_trans m y x over (le_of_eq y x (T_from_true (eq y x) same)))))
    (λ (same : eq m x ≡ true). ⊎_elim
    (λ (so : there ≡ true). inl (rw (same, so) refl))
    (λ (high : m ≡ inf false).
    let is : y ≡ m = top y ny (rw (← high) more) ∙ sym high in inr (rw is same))
    was)))
    (cases_Bool (lt y m))

-- the same of the greatest one, and what is above x
pub greatest_same : (m y x : Float) (there : Bool) → NotNan m → NotNan y
    → (there ≡ true) ⊎ (m ≡ inf true) → lt x (if lt m y then y else m) ≡ false
    → eq (if lt m y then y else m) x ≡ ((eq m x && there) || eq y x)
greatest_same m y x there nm ny was = ⊎_elim
    (λ (more : lt m y ≡ true). rw more (λ below. is_or (eq m x && there) (eq y x) (eq y x)
    (λ same. absurd (both_ways (lt x y) below (holds (lt x y) (lt_of_le_of_lt x m y
    (le_of_eq x m (eq_flip m x (T_from_true (eq m x) (front _ _ same))))
    (T_from_true (lt m y) more)))))
    (λ it. it) (λ it. inr it)))
    (λ (less : lt m y ≡ false).
    let under = le_of_not-lt m y nm ny (T_from_false (lt m y) less) in
    rw less (λ below. is_or (eq m x && there) (eq y x) (eq m x) (front _ _)
    (λ same. ⊎_elim
    (λ above. absurd (both_ways (lt x m) below (holds (lt x m) above)))
    (λ it. holds (eq m x) (eq_flip x m it))
    (lt-or-eq x m (le_trans x y m
    (le_of_eq x y (eq_flip y x (T_from_true (eq y x) same))) under)))
    (λ (same : eq m x ≡ true). ⊎_elim
    (λ (so : there ≡ true). inl (rw (same, so) refl))
    (λ (low : m ≡ inf true).
    let is : y ≡ m = bottom y ny (rw (← low) less) ∙ sym low in inr (rw is same))
    was)))
    (cases_Bool (lt m y))
